-- What was over before an event may be forgotten: whether a tracker is due does not rest on it.
use Rattle.event_laws.proofs.Common.{Birth, Bool, Bound, BufferName, Call, Called, Condition, Entry, Grows, In, In-append, In_new}
use Rattle.event_laws.proofs.Common.{IsAnswer, IsOf, IsWaitedFor, Named, NodeKey, None, Refusal, Reply, Some, Strength, Timeline, Tracked}
use Rattle.event_laws.proofs.Common.{[], allocated, and_right, arith, birth_of, birth_was_born, births, both_ways, client-le-total}
use Rattle.event_laws.proofs.Common.{collection_in, collection_of_node, cond, eqb-true, false, false_if, gone, has_joined, holds, inl}
use Rattle.event_laws.proofs.Common.{inr, is_tracked_met, map-Some, named, nat_le, none_key, not, open_of, open_total, ordered, readings}
use Rattle.event_laws.proofs.Common.{refl, refused_if, spent, subst, sym, took_effect_all, tracked_at, tracker_made, trackers_to_test}
use Rattle.event_laws.proofs.Common.{true, unfired_trackers, was_born, world, ℕ, ◌<◌, ◌||◌, ◌∙◌, ◌≡◌, ◌≤◌}
use Rattle.sm_names.specs.Handles.{doomed, home}
use Rattle.sm_names.specs.Trackers.{World}
use Rattle.event_laws.specs.Waiting.{IsRecalled}
use Rattle.event_laws.proofs.AllocatedLaws.{allocated_on}
use Rattle.event_laws.proofs.ConcernLaws.{concerned}
use Rattle.history_laws.proofs.CountLaws.{counted}
use Rattle.history_laws.proofs.HandleLaws.{some_open}
use Rattle.event_laws.proofs.WaitingLaws.{In-waiting, waited_for}

-- what is waited for is known: its node was born, and was allocated if it was gone, and its buffer was not home
abbrev pub IsKnown : Timeline → Condition → Type 0
IsKnown marks (Condition.Node key) = was_born (births marks) key ≡ true
IsKnown marks (Condition.Lifetime key collection most) =
    (was_born (births marks) key ≡ true) × (gone marks key ≡ true → allocated marks key ≡ true)
IsKnown marks (Condition.Weak buffer) = home marks buffer ≡ false

-- ---- of those that waited

-- a node of a collection was born
born_of : (marks : Timeline) (key : NodeKey) (collection : ℕ) → collection_in (births marks) key ≡ Some collection →
    was_born (births marks) key ≡ true
born_of marks key collection here =
    let b = map-Some (λ (x : Birth). x.collection) (birth_of marks key) collection here in
    birth_was_born marks key b.0 b.1

-- what a tracker waits for is known
waiting_known : (marks : Timeline) (collection : ℕ) (condition : Condition) → IsOf marks collection condition →
    IsWaitedFor marks condition → IsKnown marks condition
waiting_known marks collection (Condition.Node key) here waits = born_of marks key collection here
waiting_known marks collection (Condition.Lifetime key its most) here waits = (born_of marks key collection here.1, waits)
waiting_known marks collection (Condition.Weak buffer) here waits = rw waits refl

-- ---- of the one that the event attaches

-- a node that a call named was not gone
named_here : (pool : ℕ) (limits : Bound) (marks : Timeline) (key : NodeKey) → Grows pool limits [] marks → Named marks key →
    gone marks key ≡ false
named_here pool limits marks key g n =
    false_if (gone marks key) (λ h. both_ways (spent marks key) ((ordered pool limits marks g).ended_spent key h n.unfailed) n.unspent)

-- a client that is not refused as unknown has joined
joined_if : (b : Bool) → refused_if (not b || false) Refusal.NoSuchClient ≡ None → b ≡ true
joined_if true h = refl
joined_if false h = cc

-- a buffer on which a handle is open is not home
open_not_home : (marks : Timeline) (buffer : BufferName) → 0 < open_total marks buffer Strength.Weak → home marks buffer ≡ false
open_not_home marks buffer some = false_if (home marks buffer) (λ h.
    (let none : open_total marks buffer Strength.Weak ≡ 0 =
    eqb-true (open_total marks buffer Strength.Weak) 0 (and_right (doomed marks buffer) _ h) in
    omega (arith, some, none)))

-- what a new tracker waits for is known
made_known : (pool : ℕ) (limits : Bound) (marks : Timeline) (client : ℕ) (reply : Reply) (call : Call) (t : Tracked) →
    Grows pool limits [] marks → IsAnswer limits (readings marks) client call reply →
    tracked_at marks (Called client reply call) ≡ Some t → IsKnown marks t.condition
made_known pool limits marks client (Reply.Tracker id) (Call.TrackNode key) t g answer h =
    let effective = took_effect_all limits (readings marks) client none_key (Call.TrackNode key) (Reply.Tracker id) refl refl answer.told in
    let n : Named marks key = named limits marks client none_key (Call.TrackNode key) (Reply.Tracker id) key effective refl in
    let is : Condition.Node key ≡ t.condition = cc in
    let known : IsKnown marks (Condition.Node key) = birth_was_born marks key n.birth n.found in
    subst (IsKnown marks) is known
made_known pool limits marks client (Reply.Tracker id) (Call.TrackLifetime key most) t g answer h =
    let effective = took_effect_all limits (readings marks) client none_key (Call.TrackLifetime key most) (Reply.Tracker id) refl refl
    answer.told in
    let n : Named marks key = named limits marks client none_key (Call.TrackLifetime key most) (Reply.Tracker id) key effective refl in
    let is : Condition.Lifetime key (collection_of_node marks key) most ≡ t.condition = cc in
    let known : IsKnown marks (Condition.Lifetime key (collection_of_node marks key) most) =
    (birth_was_born marks key n.birth n.found, λ left_it. both_ways (gone marks key) left_it (named_here pool limits marks key g n)) in
    subst (IsKnown marks) is known
made_known pool limits marks client (Reply.Tracker id) (Call.TrackWeak buffer) t g answer h =
    let effective = took_effect_all limits (readings marks) client none_key (Call.TrackWeak buffer) (Reply.Tracker id) refl refl
    answer.told in
    let joined : has_joined marks client ≡ true = joined_if (has_joined marks client) effective.known in
    let has_one : 0 < open_of marks client buffer Strength.Weak =
    some_open (open_of marks client buffer Strength.Weak) effective.has_handle in
    let le : open_of marks client buffer Strength.Weak ≤ open_total marks buffer Strength.Weak =
    client-le-total marks (counted pool limits marks g) client buffer Strength.Weak joined in
    let is : Condition.Weak buffer ≡ t.condition = cc in
    let known : IsKnown marks (Condition.Weak buffer) = open_not_home marks buffer (omega (arith, has_one, le)) in
    subst (IsKnown marks) is known
made_known pool limits marks client reply call t g answer h = cc

-- ---- what is known suffices

-- whether it holds is seen rightly
known_due : (pool : ℕ) (limits : Bound) (earlier later : Timeline) (w : World) → Grows pool limits earlier later →
    IsRecalled earlier later w → (condition : Condition) → IsKnown earlier condition →
    holds w condition ≡ holds (world later) condition
known_due pool limits earlier later w g r (Condition.Node key) known = r.nodes key known
known_due pool limits earlier later w g r (Condition.Lifetime key collection most) known =
    let units : w.allocated key ≡ allocated later key = elim (r.units key known.0) [
      | inl same ↦ same
      | inr over ↦ over.1 ∙ sym (allocated_on pool limits earlier key known.0 (known.1 over.0) later g)
    ] in
    λ i. cond (units i) (nat_le (r.counts collection i) most) (r.nodes key known.0 i)
known_due pool limits earlier later w g r (Condition.Weak buffer) known = r.dooms buffer known

-- so it is of each that waited, and of the one that the event attaches
pub recalled_due : (pool : ℕ) (limits : Bound) (marks later : Timeline) (entry : Entry) (w : World) → Grows pool limits [] marks →
    Grows pool limits marks later → IsAnswer limits (readings marks) entry.0 entry.1 entry.2 → IsRecalled marks later w →
    (t : Tracked) → In t (trackers_to_test marks entry) → is_tracked_met w t ≡ is_tracked_met (world later) t
recalled_due pool limits marks later entry w g on answer r t there =
    known_due pool limits marks later w on r t.condition (elim (In-append (unfired_trackers marks) (tracker_made marks entry) t there) [
      | inl waits ↦
          let o = concerned pool limits marks g t (In-waiting marks t waits).0 in
          waiting_known marks o.0 t.condition o.1 (waited_for marks t waits)
      | inr new ↦ elim (In_new (tracked_at marks (Called entry.0 entry.2 entry.1)) [] t new) [
        | inl e ↦ made_known pool limits marks entry.0 entry.2 entry.1 t g answer e
        | inr none ↦ absurd none
      ]
    ])
