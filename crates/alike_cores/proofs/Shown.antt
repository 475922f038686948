-- Cores that are alike and show histories.
use Rattle.alike_cores.proofs.Common.{AreAlike, AreAlikeCores, Bound, Call, Called, Entry, Follows, IsSound, KeepsIds, KeepsKeys, List}
use Rattle.alike_cores.proofs.Common.{Makes, NodeKey, None, Reply, Shows, Some, State, answer, ap, call_renamed, joined_at, key_told}
use Rattle.alike_cores.proofs.Common.{legal_grows, new_key, readings_of, refl, reply_renamed, sound_of, subst, sym, timeline, with_key, ℕ}
use Rattle.alike_cores.proofs.Common.{◌+◌, ◌∙◌, ◌≡◌}
use Rattle.alike_cores.proofs.Answering.{answer-alike}
use Rattle.alike_cores.specs.Cores.{NamesNew}
use Rattle.alike_cores.proofs.Events.{stay_alike}
use Rattle.alike_cores.proofs.Finding.{sound_apart}
use Rattle.alike_cores.proofs.Keys.{answer-keyed}
use Rattle.alike_cores.proofs.Readings.{readings-alike}

-- A core that shows a history has a sound forest.
pub shown_sound : (s : State) (history : List Entry) → Shows s history → IsSound s.forest
shown_sound s history shows = sound_of s (timeline s.pool history) shows.shown s.limits (legal_grows s.pool s.limits history shows.legal)

module _ (to : NodeKey → NodeKey) (id number : ℕ → ℕ) (keeps : KeepsKeys to) (kept : KeepsIds id) (s t : State) (history : List Entry)
    (shows : Shows s history) (alike : AreAlikeCores to id number s t) where
  -- all that answers read is alike
  pub reads_alike : AreAlike to id (readings_of s) (readings_of t)
  reads_alike = readings-alike to id number keeps kept s t alike (sound_apart s.forest (shown_sound s history shows))

  module _ (collection : id (s.events + 1) ≡ t.events + 1) (tracker : number (s.events + 1) ≡ t.events + 1) where
    -- and so are the answers
    pub answers_alike : (limits : Bound) (client : ℕ) (new : NodeKey) (call : Call) →
        answer limits (readings_of t) client (to new) (call_renamed to id call)
        ≡ reply_renamed to id number (answer limits (readings_of s) client new call)
    answers_alike limits client new call =
        answer-alike to id number limits (readings_of s) (readings_of t) reads_alike collection tracker client new call

    -- The reply is the renamed one: its new key is that of the other.
    pub replies_alike : (later again : State) (client : ℕ) (call : Call) (reply told : Reply) → NamesNew to reply told →
        Makes s later (client, call, reply) → Makes t again (client, call_renamed to id call, told) →
        told ≡ reply_renamed to id number reply
    replies_alike later again client call reply told names one other = by reply keyed names
      where
        -- it is the renamed one, but for its key
        keyed : told ≡ with_key (reply_renamed to id number reply) (Some (key_told told))
        keyed =
            other.answer.told
            ∙ (ap (λ (limits : Bound). answer limits (readings_of t) client (key_told told) (call_renamed to id call)) alike.limits
            ∙ (answer-keyed s.limits (readings_of t) client (to (key_told reply)) (key_told told) (call_renamed to id call)
            ∙ ap (λ (r : Reply). with_key r (Some (key_told told)))
            (answers_alike s.limits client (key_told reply) call
            ∙ ap (reply_renamed to id number) (sym one.answer.told))))

        -- by the reply: only one tells a key
        by : (r : Reply) → told ≡ with_key (reply_renamed to id number r) (Some (key_told told)) → NamesNew to r told →
            told ≡ reply_renamed to id number r
        by (Reply.Token key made) is new =
            is ∙ ap (λ (k : NodeKey). Reply.Token k (id made)) (sym (new key (key_told told) refl (ap new_key is)))
        by _ is new = is

-- A call that is answered alike leaves cores that are alike.
pub events_alike : (to : NodeKey → NodeKey) (id number : ℕ → ℕ) → KeepsKeys to → KeepsIds id → (s t later again : State)
    (one other : List Entry) → Shows s one → Shows t other → AreAlikeCores to id number s t →
    id (s.events + 1) ≡ t.events + 1 → number (s.events + 1) ≡ t.events + 1 → (client : ℕ) (call : Call) (reply told : Reply) →
    joined_at (Called client reply call) ≡ None → NamesNew to reply told → Makes s later (client, call, reply) →
    Makes t again (client, call_renamed to id call, told) →
    (told ≡ reply_renamed to id number reply) × AreAlikeCores to id number later again
events_alike to id number keeps kept s t later again one other shows_s shows_t alike collection tracker client call reply told none
    names makes_s makes_t = (
      same,
      stay_alike to id number keeps kept s t later again alike (shown_sound s one shows_s) (shown_sound t other shows_t) client call reply
          none makes_s.after
          (subst (λ (r : Reply). Follows t again client (call_renamed to id call) r) same makes_t.after),
    )
  where
    -- the reply is the renamed one
    same : told ≡ reply_renamed to id number reply
    same = replies_alike to id number keeps kept s t one shows_s alike collection tracker later again client call reply told names makes_s
        makes_t
