-- What the whole event tells and makes.
use Rattle.core_state.proofs.Common.{Bound, Call, Called, Change, Client, EventTask, Forest, HandleCounts, Handles, IfSome, IsAnswer}
use Rattle.core_state.proofs.Common.{List, MayChange, MayDo, NodeKey, None, OpenEnd, Option, Readings, Refusal, Reply, Reworked, Some}
use Rattle.core_state.proofs.Common.{SpendsThere, State, TookEffect, Work, Worked, answer, ap, both_ways, clients_by, closing, effect}
use Rattle.core_state.proofs.Common.{end_by, false, given, handles_by, is_some, makes_node, new_key, no_key, option_map_or, readings_of}
use Rattle.core_state.proofs.Common.{refl, subst, sym, took_effect_all, tracker_by, true, with_key, work_in, work_of, work_on, ℕ, ◌+◌}
use Rattle.core_state.proofs.Common.{◌∙◌, ◌≡◌}
use Rattle.core_state.proofs.forced.Whole.{Known, Well, well}
use Rattle.core_state.proofs.answers.Kinds.{reply-fits, token-made}

-- ---- the task

-- the task may be done
pub may_do : (limits : Bound) (s : State) (client : ℕ) (call : Call) (asked : Reply) (task : Option EventTask) →
    Known limits s client call asked →
    work_in task ≡ work_of s client call asked → IfSome task (SpendsThere s.forest) → IfSome task (MayDo s.forest)
may_do limits s client call asked None known work there = tt
may_do limits s client call asked (Some t) known work there = record {
  change = may t.change refl;
  there = there;
}
  where
    -- since the call is answered so, and this is its work
    at : (change : Change) → t.change ≡ Some change → Well s call asked (record { collection = t.collection; change = change })
    at change is = well limits s client call asked known (record { collection = t.collection; change = change }) (sym work
        ∙ ap (work_on t.collection) is)

    -- by cases: without a change there is nothing to say
    may : (o : Option Change) → t.change ≡ o → IfSome o (MayChange s.forest t.collection)
    may None is = tt
    may (Some change) is = (at change is).may

-- ---- the reply

-- a call that makes no node is not answered with a token
no_token : (limits : Bound) (s : State) (client : ℕ) (call : Call) (key : NodeKey) (c : ℕ) →
    Known limits s client call (Reply.Token key c) → makes_node call ≡ false → ⊥
no_token limits s client call key c known makes =
    both_ways (makes_node call)
    (sym (token-made call) ∙ reply-fits limits (readings_of s) client no_key call (Reply.Token key c) known.told) makes

-- where the call took effect, the answer is that of the effect, whatever the key
passes : (limits : Bound) (r : Readings) (client : ℕ) (new key : NodeKey) (call : Call) (reply : Reply) →
    TookEffect limits r client new call reply → closing call ≡ None →
    answer limits r client key call ≡ effect r client key call
passes limits r client new key call reply all going =
    rw (
      all.known,
      all.not_shut,
      all.has_end,
      all.not_in_transit,
      going,
      all.not_gone,
      all.right_kind,
      all.no_misuse,
      all.has_handle,
      all.nodes_fit,
      all.collections_fit,
      all.trackers_fit,
      all.handles_fit,
    ) refl

-- a token with its key
token_told : (limits : Bound) (s : State) (client : ℕ) (call : Call) (first key : NodeKey) (c : ℕ) →
    Known limits s client call (Reply.Token first c) →
    Reply.Token key c ≡ answer limits (readings_of s) client key call
token_told limits s client Call.OpenRoot first key c known =
    let all = took_effect_all limits (readings_of s) client no_key Call.OpenRoot (Reply.Token first c) refl refl known.told in
    ap (Reply.Token key) (number first no_key c (s.events + 1) all.answered)
    ∙ sym (passes limits (readings_of s) client no_key key Call.OpenRoot (Reply.Token first c) all refl)
  where
    -- since `Token` is injective
    number : (a b : NodeKey) (x y : ℕ) → Reply.Token a x ≡ Reply.Token b y → x ≡ y
    number a b x y is = cc
token_told limits s client (Call.Duplicate above) first key c known =
    let all = took_effect_all limits (readings_of s) client no_key (Call.Duplicate above) (Reply.Token first c) refl refl known.told in
    child ((readings_of s).end_of above) all.answered
    ∙ sym (passes limits (readings_of s) client no_key key (Call.Duplicate above) (Reply.Token first c) all refl)
  where
    -- by cases: the reply has the collection of the end, whatever the new key is
    child : (o : Option OpenEnd) → Reply.Token first c ≡ option_map_or (λ (e : OpenEnd). Reply.Token no_key e.collection) o
        (Reply.Refused Refusal.NoSuchEnd) →
        Reply.Token key c ≡ option_map_or (λ (e : OpenEnd). Reply.Token key e.collection) o (Reply.Refused Refusal.NoSuchEnd)
    child None is = cc
    child (Some e) is = cc
token_told limits s client (Call.AttachToken above) first key c known =
    let all = took_effect_all limits (readings_of s) client no_key (Call.AttachToken above) (Reply.Token first c) refl refl known.told in
    child ((readings_of s).end_of above) all.answered
    ∙ sym (passes limits (readings_of s) client no_key key (Call.AttachToken above) (Reply.Token first c) all refl)
  where
    -- by cases: the reply has the collection of the end, whatever the new key is
    child : (o : Option OpenEnd) → Reply.Token first c ≡ option_map_or (λ (e : OpenEnd). Reply.Token no_key e.collection) o
        (Reply.Refused Refusal.NoSuchEnd) →
        Reply.Token key c ≡ option_map_or (λ (e : OpenEnd). Reply.Token key e.collection) o (Reply.Refused Refusal.NoSuchEnd)
    child None is = cc
    child (Some e) is = cc
token_told limits s client call first key c known = absurd (no_token limits s client call first c known refl)

-- a key is made where the answer tells of one
pub record IsKeyed (s : State) (asked : Reply) (key : Option NodeKey) : Type 0 where
  pub both : is_some key ≡ is_some (new_key asked)
  pub fresh : IfSome key (λ k. given s.forest k ≡ false)

-- where nothing is done, the answer tells of no key
untold : (limits : Bound) (s : State) (client : ℕ) (call : Call) (asked : Reply) → Known limits s client call asked →
    work_of s client call asked ≡ None → is_some (new_key asked) ≡ false
untold limits s client Call.OpenRoot (Reply.Token key c) known none = cc
untold limits s client (Call.Duplicate above) (Reply.Token key c) known none = cc
untold limits s client (Call.AttachToken above) (Reply.Token key c) known none = cc
untold limits s client call (Reply.Token key c) known none = absurd (no_token limits s client call key c known refl)
untold limits s client call _ known none = refl

-- the key is as the answer wants it
pub is_keyed : (limits : Bound) (handles : Handles) (s : State) (client : ℕ) (call : Call) (asked : Reply) (task : Option EventTask)
    (key : Option NodeKey) (worked : Forest) → Known limits s client call asked →
    work_in task ≡ work_of s client call asked → Reworked s.pool handles s.forest (work_in task) key worked → IsKeyed s asked key
is_keyed limits handles s client call asked task key worked known work done = by (work_in task) refl done
  where
    -- by cases: without work nothing is made, and with work the key is new exactly if a node is born
    by : (o : Option Work) → work_in task ≡ o → Reworked s.pool handles s.forest o key worked → IsKeyed s asked key
    by None is done = record {
      both = ap is_some done.1 ∙ sym (untold limits s client call asked known (sym work ∙ is));
      fresh = subst (λ (o : Option NodeKey). IfSome o (λ k. given s.forest k ≡ false)) (sym done.1) tt;
    }
    by (Some w) is settled = record {
      both = settled.told ∙ (well limits s client call asked known w (sym work ∙ is)).births;
      fresh = settled.fresh;
    }

-- the reply is the answer
pub is_answer : (limits : Bound) (s : State) (client : ℕ) (call : Call) (asked : Reply) (key : Option NodeKey) →
    Known limits s client call asked → IsKeyed s asked key →
    IsAnswer limits (readings_of s) client call (with_key asked key)
is_answer limits s client call (Reply.Token first c) None known made = both_ways false made.both refl
is_answer limits s client call (Reply.Token first c) (Some key) known made = record {
  told = token_told limits s client call first key c known;
  is_new = made.fresh;
}
is_answer limits s client call _ key known made = record { told = known.told; is_new = refl }

-- the key that the reply tells of is the one that was made
new_is : (s : State) (asked : Reply) (key : Option NodeKey) → IsKeyed s asked key → new_key (with_key asked key) ≡ key
new_is s (Reply.Token first c) None made = both_ways false made.both refl
new_is s (Reply.Token first c) (Some key) made = refl
new_is s _ None made = refl
new_is s _ (Some key) made = both_ways true refl made.both

-- what is done depends on no new key
pub same_work : (s : State) (client : ℕ) (call : Call) (asked : Reply) (key : Option NodeKey) →
    work_of s client call (with_key asked key) ≡ work_of s client call asked
same_work s client call (Reply.Token first c) None = refl
same_work s client Call.OpenRoot (Reply.Token first c) (Some key) = refl
same_work s client (Call.Duplicate above) (Reply.Token first c) (Some key) = refl
same_work s client (Call.AttachToken above) (Reply.Token first c) (Some key) = refl
same_work s client _ (Reply.Token first c) (Some key) = refl
same_work s client call _ key = refl

-- the work is done
pub worked_is : (handles : Handles) (s : State) (client : ℕ) (call : Call) (asked : Reply) (task : Option EventTask) (key : Option NodeKey)
    (worked : Forest) →
    work_in task ≡ work_of s client call asked → IsKeyed s asked key → Reworked s.pool handles s.forest (work_in task) key worked →
    Worked s handles (work_of s client call (with_key asked key)) (new_key (with_key asked key)) worked
worked_is handles s client call asked task key worked work made done =
    rw (same_work s client call asked key, new_is s asked key made, ← work) (by (work_in task) done)
  where
    -- by cases: without work all stays
    by : (o : Option Work) → Reworked s.pool handles s.forest o key worked → Worked s handles o key worked
    by None done = done.0
    by (Some w) settled = settled

-- nor the new holder of an end
pub same_end : (client : ℕ) (call : Call) (asked : Reply) (key : Option NodeKey) →
    end_by client call (with_key asked key) ≡ end_by client call asked
same_end client call (Reply.Token first c) None = refl
same_end client (Call.Close node) (Reply.Token first c) (Some key) = refl
same_end client (Call.Release node) (Reply.Token first c) (Some key) = refl
same_end client (Call.Give node to) (Reply.Token first c) (Some key) = refl
same_end client Call.Collect (Reply.Token first c) (Some key) = refl
same_end client _ (Reply.Token first c) (Some key) = refl
same_end client call _ key = refl

-- nor what becomes of clients
pub same_clients : (client : ℕ) (call : Call) (asked : Reply) (key : Option NodeKey) (clients : List Client) →
    clients_by (Called client (with_key asked key) call) clients ≡ clients_by (Called client asked call) clients
same_clients client call (Reply.Token first c) None clients = refl
same_clients client call (Reply.Token first c) (Some key) clients = refl
same_clients client call _ key clients = refl

-- nor of handles
pub same_handles : (client : ℕ) (call : Call) (asked : Reply) (key : Option NodeKey) (handles : HandleCounts) →
    handles_by (Called client (with_key asked key) call) handles ≡ handles_by (Called client asked call) handles
same_handles client call (Reply.Token first c) None handles = refl
same_handles client call (Reply.Token first c) (Some key) handles = refl
same_handles client call _ key handles = refl

-- nor which tracker is made
pub same_tracker : (f : Forest) (call : Call) (asked : Reply) (key : Option NodeKey) →
    tracker_by f call (with_key asked key) ≡ tracker_by f call asked
same_tracker f call (Reply.Token first c) None = refl
same_tracker f (Call.TrackNode node) (Reply.Token first c) (Some key) = refl
same_tracker f _ (Reply.Token first c) (Some key) = refl
same_tracker f call _ key = refl
