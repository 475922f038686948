-- The events of a vanishing, one by one: how each is answered, and what it makes of what the client has.
use Rattle.core_vanish.proofs.Common.{All-nil, All-push, Birth, Bool, Bound, BufferName, Call, Called, Entry, FreeEnd, GetsNothing}
use Rattle.core_vanish.proofs.Common.{GoesBy, IsAnswer, IsClose, IsCollect, IsDrop, IsLegal, IsShut, Lets, List, NextEvent, NodeKey, None}
use Rattle.core_vanish.proofs.Common.{OpenEnd, Parcel, Refusal, Reply, Some, Strength, Strong, Timeline, Weak, [], ap, arith, birth_at}
use Rattle.core_vanish.proofs.Common.{birth_is, birth_of, births, collected_at, collected_event, cond, either_way, entry_mark, eq-eqb}
use Rattle.core_vanish.proofs.Common.{events, false, gains, given_at, has_joined, holder, holds_end, idle_event, in_transit, inl, inr}
use Rattle.core_vanish.proofs.Common.{is_end_of, is_shut, is_some-find, length, list_any, loses, next_event, one_if, only, open_end}
use Rattle.core_vanish.proofs.Common.{open_of, open_of_event, or_right, parcels, readings, refl, same_buffer, same_key, shut_event, shuts}
use Rattle.core_vanish.proofs.Common.{some_is, spent, spent_event, still_joined, subst, sym, timeline, true, ℕ, ◌&&◌, ◌++◌, ◌+◌, ◌==◌}
use Rattle.core_vanish.proofs.Common.{◌∙◌, ◌∷◌, ◌≡◌}
use Rattle.std.proofs.Common.{◌⊎◌}
use Rattle.sm_names.specs.Sameness.{same_strength}
use Rattle.sm_names.proofs.SamenessLaws.{or_left, same_key-refl}
use Rattle.event_laws.proofs.EndEventLaws.{in_transit_born, in_transit_unspent, waits_in_transit}
use Rattle.core_vanish.specs.Events.{LetsGo}
use Rattle.core_vanish.proofs.VanishEvents.{held_before}
use Rattle.core_vanish.proofs.HeldEnds.{free_holds, holds_free}

-- ---- answers

-- how a Shut of a client that has joined is answered, and of one that has not
shut_known : (limits : Bound) (marks : Timeline) (client : ℕ) (reply : Reply) → IsAnswer limits (readings marks) client Call.Shut reply →
    has_joined marks client ≡ true → reply ≡ Reply.Shut (length (parcels marks client))
shut_known limits marks client reply answer joined = rw joined at answer.told

-- a Shut of a client that has not joined is refused
shut_unknown : (limits : Bound) (marks : Timeline) (client : ℕ) (reply : Reply) → IsAnswer limits (readings marks) client Call.Shut reply →
    has_joined marks client ≡ false → reply ≡ Reply.Refused Refusal.NoSuchClient
shut_unknown limits marks client reply answer stranger = rw stranger at answer.told

-- a Collect is answered with the first parcel that waits
collect_first : (pool : ℕ) (limits : Bound) (history : List Entry) (client : ℕ) (reply : Reply)
    (next : NextEvent pool limits history (client, Call.Collect, reply)) (p : Parcel) (more : List Parcel) →
    has_joined (timeline pool history) client ≡ true → parcels (timeline pool history) client ≡ p ∷ more →
    collected_at client (Called client reply Call.Collect) ≡ Some p
collect_first pool limits history client reply next (Parcel.Handle buffer strength) more joined is =
    let told : reply ≡ Reply.CollectedHandle buffer strength = rw (joined, is) at next.answer.told in
    rw told (ap (λ (b : Bool). cond b (Some (Parcel.Handle buffer strength)) None) (eq-eqb client client refl))
collect_first pool limits history client reply next (Parcel.End key) more joined is =
    let marks : Timeline = timeline pool history in
    let here : list_any (is_end_of key) (parcels marks client) ≡ true =
    ap (list_any (is_end_of key)) is ∙ or_left (same_key key key) _ (same_key-refl key) in
    let moves : in_transit marks key ≡ true = waits_in_transit pool limits marks next.grown key client here in
    let unspent : spent marks key ≡ false = in_transit_unspent pool limits marks next.grown key moves in
    let b = some_is (birth_of marks key) (is_some-find (λ (x : Birth). same_key x.node key) (births marks)
    ∙ in_transit_born pool limits marks next.grown key moves) in
    let e : OpenEnd = open_end marks b.0 in
    let told : reply ≡ Reply.Collected key e.kind e.collection = rw (joined, is, unspent, b.1) at next.answer.told in
    rw told (ap (λ (x : Bool). cond x (Some (Parcel.End key)) None) (eq-eqb client client refl))

-- a Close of an end that the client holds is answered Done
close_done : (limits : Bound) (marks : Timeline) (client : ℕ) (key : NodeKey) (reply : Reply) →
    IsAnswer limits (readings marks) client (Call.Close key) reply → has_joined marks client ≡ true → FreeEnd marks client key →
    reply ≡ Reply.Done
close_done limits marks client key reply answer joined f =
    let b = some_is (birth_of marks key) (is_some-find (λ (x : Birth). same_key x.node key) (births marks) ∙ f.born) in
    let is : b.0.node ≡ key = (birth_is marks key b.0 b.1).1 in
    let held : (holder marks b.0.node == client) ≡ true = eq-eqb (holder marks b.0.node) client (ap (holder marks) is ∙ f.held) in
    let still : in_transit marks b.0.node ≡ false = ap (in_transit marks) is ∙ f.resting in
    rw (joined, f.unspent, b.1, held, still) at answer.told

-- a DropHandle of a handle that the client has open is answered Done
drop_done : (limits : Bound) (marks : Timeline) (client : ℕ) (buffer : BufferName) (strength : Strength) (reply : Reply) →
    IsAnswer limits (readings marks) client (Call.DropHandle buffer strength) reply → has_joined marks client ≡ true →
    (open_of marks client buffer strength == 0) ≡ false → reply ≡ Reply.Done
drop_done limits marks client buffer strength reply answer joined some = rw (joined, some) at answer.told

-- ---- one event of a legal history

-- a client that has joined stays joined
joined_on : (pool : ℕ) (limits : Bound) (history : List Entry) (entry : Entry) → NextEvent pool limits history entry → (client : ℕ) →
    has_joined (timeline pool history) client ≡ true → has_joined (timeline pool (history ++ entry ∷ [])) client ≡ true
joined_on pool limits history entry next client h =
    ap (λ (cs : List ℕ). list_any (λ k. k == client) cs) next.same.joined ∙ still_joined (timeline pool history) (entry_mark entry) client h

-- a client that is shut stays shut
pub shut_on : (pool : ℕ) (limits : Bound) (history : List Entry) (entry : Entry) → IsLegal pool limits (history ++ entry ∷ []) →
    (client : ℕ) → is_shut (timeline pool history) client ≡ true → is_shut (timeline pool (history ++ entry ∷ [])) client ≡ true
shut_on pool limits history entry legal client h =
    shut_event pool limits history entry legal client
    ∙ or_right (shuts client (entry_mark entry)) (is_shut (timeline pool history) client) h

-- an event that brings the client nothing
gets_nothing : (pool : ℕ) (limits : Bound) (history : List Entry) (entry : Entry) (legal : IsLegal pool limits (history ++ entry ∷ []))
    (client : ℕ) → has_joined (timeline pool history) client ≡ true → collected_at client (entry_mark entry) ≡ None →
    given_at client (entry_mark entry) ≡ None →
    ((b : Birth) → birth_at (events (timeline pool history) + 1) (entry_mark entry) ≡ Some b → entry.0 ≡ client → ⊥) →
    ((buffer : BufferName) (strength : Strength) → gains (only client) buffer strength (entry_mark entry) ≡ false) →
    GetsNothing client (timeline pool history) (timeline pool (history ++ entry ∷ []))
gets_nothing pool limits history entry legal client joined idle ungiven unborn ungained =
    let old : Timeline = timeline pool history in
    let new : Timeline = timeline pool (history ++ entry ∷ []) in
    record {
      joined = joined_on pool limits history entry (next_event pool limits history entry legal) client joined;
      shut = shut_on pool limits history entry legal client;
      parcels = idle_event pool limits history entry legal client idle ungiven;
      ends = λ key h. free_holds old client key
          (held_before pool limits history entry legal client key idle unborn (holds_free new client key h));
      handles = λ buffer strength.
          let goes : GoesBy (open_of old client buffer strength) (open_of new client buffer strength)
          (gains (only client) buffer strength (entry_mark entry)) (loses (only client) buffer strength (entry_mark entry)) =
          open_of_event pool limits history entry legal client buffer strength in
          let none : one_if (gains (only client) buffer strength (entry_mark entry)) ≡ 0 = ap one_if (ungained buffer strength) in
          omega (arith, goes.adds_up, none);
    }

-- the Shut of a client that has joined
pub shut_told : (pool : ℕ) (limits : Bound) (history : List Entry) (client waiting : ℕ) →
    IsLegal pool limits (history ++ (client, Call.Shut, Reply.Shut waiting) ∷ []) →
    IsShut client waiting ((client, Call.Shut, Reply.Shut waiting) ∷ [])
    (timeline pool (history ++ (client, Call.Shut, Reply.Shut waiting) ∷ []))
shut_told pool limits history client waiting legal = from (either_way (has_joined old client))
  where
    -- the marks before the event
    old : Timeline
    old = timeline pool history

    -- the event
    entry : Entry
    entry = (client, Call.Shut, Reply.Shut waiting)

    -- what a legal history says of this event
    next : NextEvent pool limits history (client, Call.Shut, Reply.Shut waiting)
    next = next_event pool limits history entry legal

    -- by cases: a client that has joined is told how many parcels wait, and another would be refused
    from : (has_joined (timeline pool history) client ≡ true) ⊎ (has_joined (timeline pool history) client ≡ false) →
        IsShut client waiting ((client, Call.Shut, Reply.Shut waiting) ∷ [])
        (timeline pool (history ++ (client, Call.Shut, Reply.Shut waiting) ∷ []))
    from (inl joined) =
        let told : Reply.Shut waiting ≡ Reply.Shut (length (parcels old client)) =
        shut_known limits old client (Reply.Shut waiting) next.answer joined in
        let many : waiting ≡ length (parcels old client) = cc in
        record {
          are = refl;
          joined = joined_on pool limits history entry next client joined;
          shut = shut_event pool limits history entry legal client
              ∙ or_left (client == client) (is_shut old client) (eq-eqb client client refl);
          waits = ap length (idle_event pool limits history entry legal client refl refl) ∙ sym many;
        }
    from (inr stranger) =
        let told : Reply.Shut waiting ≡ Reply.Refused Refusal.NoSuchClient =
        shut_unknown limits old client (Reply.Shut waiting) next.answer stranger in
        cc

-- any other answer is the refusal of a client that has not
pub shut_refused : (pool : ℕ) (limits : Bound) (history : List Entry) (client : ℕ) (reply : Reply) →
    IsLegal pool limits (history ++ (client, Call.Shut, reply) ∷ []) → ((waiting : ℕ) → reply ≡ Reply.Shut waiting → ⊥) →
    reply ≡ Reply.Refused Refusal.NoSuchClient
shut_refused pool limits history client reply legal other =
    let next : NextEvent pool limits history (client, Call.Shut, reply) =
    next_event pool limits history (client, Call.Shut, reply) legal in
    elim (either_way (has_joined (timeline pool history) client)) [
      | inl joined ↦ absurd (other (length (parcels (timeline pool history) client))
          (shut_known limits (timeline pool history) client reply next.answer joined))
      | inr stranger ↦ shut_unknown limits (timeline pool history) client reply next.answer stranger
    ]

-- one Collect where one parcel waits at least
pub collect_told : (pool : ℕ) (limits : Bound) (history : List Entry) (client left : ℕ) (reply : Reply) →
    IsLegal pool limits (history ++ (client, Call.Collect, reply) ∷ []) → has_joined (timeline pool history) client ≡ true →
    length (parcels (timeline pool history) client) ≡ left + 1 →
    IsCollect client (client, Call.Collect, reply) ×
    (has_joined (timeline pool (history ++ (client, Call.Collect, reply) ∷ [])) client ≡ true) ×
    (length (parcels (timeline pool (history ++ (client, Call.Collect, reply) ∷ [])) client) ≡ left)
collect_told pool limits history client left reply legal joined many = from (parcels old client) refl
  where
    -- the marks before the event
    old : Timeline
    old = timeline pool history

    -- the marks after the event
    new : Timeline
    new = timeline pool (history ++ (client, Call.Collect, reply) ∷ [])

    -- what a legal history says of this event
    next : NextEvent pool limits history (client, Call.Collect, reply)
    next = next_event pool limits history (client, Call.Collect, reply) legal

    -- by cases: no parcel would be none to collect; the first one is collected, and the others are left
    from : (ps : List Parcel) → parcels (timeline pool history) client ≡ ps →
        IsCollect client (client, Call.Collect, reply) ×
        (has_joined (timeline pool (history ++ (client, Call.Collect, reply) ∷ [])) client ≡ true) ×
        (length (parcels (timeline pool (history ++ (client, Call.Collect, reply) ∷ [])) client) ≡ left)
    from [] is = let none : length (parcels old client) ≡ 0 = ap length is in absurd (omega (arith, none, many))
    from (p ∷ more) is =
        let got : collected_at client (Called client reply Call.Collect) ≡ Some p =
        collect_first pool limits history client reply next p more joined is in
        let waited : length (parcels old client) ≡ length (p ∷ parcels new client) =
        ap length (collected_event pool limits history (client, Call.Collect, reply) legal client p got) in
        let fewer : length (p ∷ parcels new client) ≡ length (parcels new client) + 1 = omega arith in (
          (p, got),
          joined_on pool limits history (client, Call.Collect, reply) next client joined,
          omega (arith, waited, fewer, many),
        )

-- one Close of an end that the client holds
pub close_told : (pool : ℕ) (limits : Bound) (history : List Entry) (client : ℕ) (key : NodeKey) (reply : Reply) →
    IsLegal pool limits (history ++ (client, Call.Close key, reply) ∷ []) → holds_end (readings (timeline pool history)) client key ≡ true →
    Lets (IsClose client) client (λ later. holds_end (readings later) client key ≡ false) (timeline pool history)
    ((client, Call.Close key, reply) ∷ []) (timeline pool (history ++ (client, Call.Close key, reply) ∷ []))
close_told pool limits history client key reply legal held joined =
    let old : Timeline = timeline pool history in
    let done : reply ≡ Reply.Done =
    close_done limits old client key reply (next_event pool limits history (client, Call.Close key, reply) legal).answer joined
    (holds_free old client key held) in
    subst (λ (r : Reply). LetsGo (IsClose client) client (timeline pool history)
    ((client, Call.Close key, r) ∷ []) (timeline pool (history ++ (client, Call.Close key, r) ∷ []))
    × (holds_end (readings (timeline pool (history ++ (client, Call.Close key, r) ∷ []))) client key ≡ false)) (sym done)
    (closed (subst (λ (r : Reply). IsLegal pool limits (history ++ (client, Call.Close key, r) ∷ [])) done legal))
  where
    -- since the end is spent by this event
    closed : IsLegal pool limits (history ++ (client, Call.Close key, Reply.Done) ∷ []) →
        LetsGo (IsClose client) client (timeline pool history)
        ((client, Call.Close key, Reply.Done) ∷ []) (timeline pool (history ++ (client, Call.Close key, Reply.Done) ∷ []))
        × (holds_end (readings (timeline pool (history ++ (client, Call.Close key, Reply.Done) ∷ []))) client key ≡ false)
    closed legal =
        let entry : Entry = (client, Call.Close key, Reply.Done) in
        let new : Timeline = timeline pool (history ++ entry ∷ []) in
        let over : spent new key ≡ true =
        spent_event pool limits history entry legal key ∙ or_left (same_key key key) _ (same_key-refl key) in (
          record {
            are = All-push (IsClose client) [] entry (All-nil (IsClose client)) (key, refl);
            nothing = gets_nothing pool limits history entry legal client joined refl refl (λ b h is. cc) (λ buffer strength. refl);
          },
          rw over refl,
        )

-- one DropHandle of a handle of which the client has this many and one open
pub drop_told : (pool : ℕ) (limits : Bound) (history : List Entry) (client left : ℕ) (buffer : BufferName) (strength : Strength)
    (reply : Reply) → IsLegal pool limits (history ++ (client, Call.DropHandle buffer strength, reply) ∷ []) →
    open_of (timeline pool history) client buffer strength ≡ left + 1 →
    Lets (IsDrop client) client (λ later. open_of later client buffer strength ≡ left) (timeline pool history)
    ((client, Call.DropHandle buffer strength, reply) ∷ [])
    (timeline pool (history ++ (client, Call.DropHandle buffer strength, reply) ∷ []))
drop_told pool limits history client left buffer strength reply legal many joined =
    let old : Timeline = timeline pool history in
    let some : (open_of old client buffer strength == 0) ≡ false = ap (λ (n : ℕ). n == 0) many ∙ more left in
    let done : reply ≡ Reply.Done =
    drop_done limits old client buffer strength reply
    (next_event pool limits history (client, Call.DropHandle buffer strength, reply) legal).answer joined some in
    subst (λ (r : Reply). LetsGo (IsDrop client) client (timeline pool history)
    ((client, Call.DropHandle buffer strength, r) ∷ [])
    (timeline pool (history ++ (client, Call.DropHandle buffer strength, r) ∷ []))
    × (open_of (timeline pool (history ++ (client, Call.DropHandle buffer strength, r) ∷ [])) client buffer strength ≡ left)) (sym done)
    (dropped (subst (λ (r : Reply). IsLegal pool limits (history ++ (client, Call.DropHandle buffer strength, r) ∷ [])) done legal))
  where
    -- since it is more than 0
    more : (n : ℕ) → ((n + 1) == 0) ≡ false
    more n = grind arith

    -- by arithmetic: one handle less is open
    dropped : IsLegal pool limits (history ++ (client, Call.DropHandle buffer strength, Reply.Done) ∷ []) →
        LetsGo (IsDrop client) client (timeline pool history)
        ((client, Call.DropHandle buffer strength, Reply.Done) ∷ [])
        (timeline pool (history ++ (client, Call.DropHandle buffer strength, Reply.Done) ∷ []))
        × (open_of (timeline pool (history ++ (client, Call.DropHandle buffer strength, Reply.Done) ∷ [])) client buffer strength ≡ left)
    dropped legal =
        let entry : Entry = (client, Call.DropHandle buffer strength, Reply.Done) in
        let goes : GoesBy (open_of (timeline pool history) client buffer strength)
        (open_of (timeline pool (history ++ entry ∷ [])) client buffer strength) (gains (only client) buffer strength (entry_mark entry))
        (loses (only client) buffer strength (entry_mark entry)) =
        open_of_event pool limits history entry legal client buffer strength in
        let lost : one_if (loses (only client) buffer strength (entry_mark entry)) ≡ 1 =
        ap one_if (or_left _ false (its client buffer strength)) in
        let got : one_if (gains (only client) buffer strength (entry_mark entry)) ≡ 0 = refl in (
          record {
            are = All-push (IsDrop client) [] entry (All-nil (IsDrop client)) (buffer, strength, refl);
            nothing = gets_nothing pool limits history entry legal client joined refl refl (λ b h is. cc) (λ b s. refl);
          },
          omega (arith, goes.adds_up, lost, got, many),
        )
      where
        its : (c : ℕ) (b : BufferName) (s : Strength) → (c == c && (same_buffer b b && same_strength s s)) ≡ true
        its c b Strong = rw (eq-eqb c c refl, eq-eqb b.collection b.collection refl, eq-eqb b.index b.index refl) refl
        its c b Weak = rw (eq-eqb c c refl, eq-eqb b.collection b.collection refl, eq-eqb b.index b.index refl) refl
