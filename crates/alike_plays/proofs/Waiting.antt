-- Cores that are alike have something there for a call, or both have nothing.
use Rattle.alike_plays.proofs.Common.{AreAlikeCores, Call, Entry, KeepsIds, KeepsKeys, List, NamesOld, NodeKey, Reply, Shows, Some, State}
use Rattle.alike_plays.proofs.Common.{answer, ap, call_renamed, is_wait, no_key, number_kept, number_moved, number_there, readings_of}
use Rattle.alike_plays.proofs.Common.{refl, reply_renamed, sym, ℕ, ◌+◌, ◌∙◌, ◌≡◌}
use Rattle.sm_names.specs.Bounds.{Bound}
use Rattle.core_state.specs.Tasks.{with_key}
use Rattle.alike_cores.proofs.Agreeing.{agree, ids_agree}
use Rattle.alike_cores.proofs.Progress.{call-agrees}
use Rattle.alike_cores.proofs.Keys.{answer-keyed}
use Rattle.alike_cores.proofs.Shown.{answers_alike}

-- By the reply.
wait-renamed : (to : NodeKey → NodeKey) (id number : ℕ → ℕ) (r : Reply) → is_wait (reply_renamed to id number r) ≡ is_wait r
wait-renamed to id number (Reply.Joined client) = refl
wait-renamed to id number _ = refl

-- By the reply.
wait-keyed : (key : NodeKey) (r : Reply) → is_wait (with_key r (Some key)) ≡ is_wait r
wait-keyed key (Reply.Token old collection) = refl
wait-keyed key _ = refl

-- Under names that know the next event the one answer is the renamed other one; and no key makes a difference to this.
pub waits_alike : (to : NodeKey → NodeKey) (id number : ℕ → ℕ) → KeepsKeys to → KeepsIds id → KeepsIds number → (s t : State)
    (one other : List Entry) → Shows s one → Shows t other → AreAlikeCores to id number s t → (client : ℕ) (call : Call) →
    NamesOld to id s t call → (key : NodeKey) →
    is_wait (answer t.limits (readings_of t) client no_key (call_renamed to id call))
    ≡ is_wait (answer s.limits (readings_of s) client key call)
waits_alike to id number keeps kept counted s t one other shows shows_too alike client call old key =
    ap (λ (limits : Bound). is_wait (answer limits (readings_of t) client no_key (call_renamed to id call))) alike.limits
    ∙ (ap is_wait (answer-keyed s.limits (readings_of t) client (to key) no_key (call_renamed to id call))
    ∙ (wait-keyed no_key (answer s.limits (readings_of t) client (to key) (call_renamed to id call))
    ∙ (ap (λ (c : Call). is_wait (answer s.limits (readings_of t) client (to key) c)) (sym same_call)
    ∙ (ap is_wait (answers_alike to ids numbers keeps (number_kept id kept (s.events + 1) (t.events + 1)) s t one shows again
    (number_there id kept (s.events + 1) (t.events + 1)) (number_there number counted (s.events + 1) (t.events + 1)) s.limits client key
    call)
    ∙ wait-renamed to ids numbers (answer s.limits (readings_of s) client key call)))))
  where
    -- the next collection becomes that of the other
    ids : ℕ → ℕ
    ids = number_moved id (s.events + 1) (t.events + 1)

    -- and the next tracker
    numbers : ℕ → ℕ
    numbers = number_moved number (s.events + 1) (t.events + 1)

    -- the cores are alike under these names
    again : AreAlikeCores to ids numbers s t
    again = agree to to id number kept counted s t one other shows shows_too alike (λ k here there. refl)

    -- and the call is the same
    same_call : call_renamed to ids call ≡ call_renamed to id call
    same_call = call-agrees to to id ids call (λ k is. refl) (λ b is.
        let k = old.buffers b is in
        ids_agree to to id number kept counted s t one other shows shows_too alike (λ k here there. refl) b.collection k.0 k.1)
