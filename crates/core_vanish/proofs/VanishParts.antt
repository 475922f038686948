-- The phases of a vanishing make a vanishing.
use Rattle.core_vanish.proofs.Common.{All, All-append, All-nil, All-push, Bool, BufferName, Call, Collecting, Collects, Entry, Fired}
use Rattle.core_vanish.proofs.Common.{Gathered, GetsNothing, HasAmong, HasLeft, HasVanished, HoldsAmong, IsBegun, IsClose, IsCollect}
use Rattle.core_vanish.proofs.Common.{IsDrop, IsShut, IsUnshut, Leaving, Lets, List, NodeKey, None, Parcel, Phase, Reply, ShowsBut, Some}
use Rattle.core_vanish.proofs.Common.{State, StepFault, Strength, Timeline, VanishFault, Whatever, [], ap, append-nil, append_assoc}
use Rattle.core_vanish.proofs.Common.{arith, cond, eq-eqb, false, false_if, has_joined, holds_end, length, length-append, open_of}
use Rattle.core_vanish.proofs.Common.{parcels, part_fault, readings, recalling, refl, subst, sym, timeline, true, ℕ, ◌++◌, ◌+◌, ◌-◌, ◌<◌}
use Rattle.core_vanish.proofs.Common.{◌∙◌, ◌∷◌, ◌≡◌, ◌≤◌}
use Rattle.std.proofs.Common.{zero, suc}
use Rattle.core_vanish.specs.Events.{GivesUpAll, IsRest}
use Rattle.core_vanish.specs.Vanishes.{IsVanish}
use Rattle.core_vanish.specs.Vanishing.{Vanishes, VanishStops}
use Rattle.core_vanish.proofs.PhaseLemmas.{gets_then, phase_less, phase_then}
use Rattle.core_vanish.proofs.StateReads.{as_read}

-- a number of which there is not one is none
none_if : (n : ℕ) → (0 < n → ⊥) → n ≡ 0
none_if zero h = refl
none_if (suc n) h = absurd (h (omega arith))

-- no parcel waits where none is counted
no_parcel : (ps : List Parcel) → length ps ≡ 0 → ps ≡ []
no_parcel [] h = refl
no_parcel (p ∷ ps) h = absurd (omega (arith, h))

-- ---- Closes and DropHandles

-- the client closed all its ends, and then dropped all its handles
record LetsAll (client : ℕ) (marks : Timeline) (events : List Entry) (later : Timeline) : Type 0 where
  closes : List Entry
  drops : List Entry
  are : events ≡ closes ++ drops
  closed : All (IsClose client) closes
  dropped : All (IsDrop client) drops
  nothing : GetsNothing client marks later
  ends : (key : NodeKey) → holds_end (readings later) client key ≡ false
  handles : (buffer : BufferName) (strength : Strength) → open_of later client buffer strength ≡ 0

-- LetsAll is true of these events if the client has joined
abbrev LettingAll : ℕ → Timeline → List Entry → Timeline → Type 0
LettingAll client marks events later = has_joined marks client ≡ true → LetsAll client marks events later

-- no DropHandle gives the client an end, so after the second phase it still holds none
lets_all : (client : ℕ) (old mid new : State) → Phase old mid (Lets (IsClose client) client (HoldsAmong client [])) →
    Phase mid new (Lets (IsDrop client) client (HasAmong client [])) → Phase old new (LettingAll client)
lets_all client old mid new p q =
    phase_then old mid new (Lets (IsClose client) client (HoldsAmong client [])) (Lets (IsDrop client) client (HasAmong client []))
    (LettingAll client) p q (λ marks midway later first more a b joined.
    let x = a joined in
    let y = b x.0.nothing.joined in
    record {
      closes = first;
      drops = more;
      are = refl;
      closed = x.0.are;
      dropped = y.0.are;
      nothing = gets_then client marks midway later x.0.nothing y.0.nothing;
      ends = λ key. false_if (holds_end (readings later) client key) (λ h.
          let no : false ≡ true = x.1 key (y.0.nothing.ends key h) in absurd (cc));
      handles = λ buffer strength. none_if (open_of later client buffer strength) (λ some.
          let no : false ≡ true = y.1 buffer strength some in cc);
    })

-- ---- with the Collects before them

-- all was given up
pub leaves : (client waiting : ℕ) (old one two new : State) → Phase old one (Collecting client waiting waiting) →
    Phase one two (Lets (IsClose client) client (HoldsAmong client [])) →
    Phase two new (Lets (IsDrop client) client (HasAmong client [])) → Phase old new (GivesUpAll client waiting)
leaves client waiting old one two new p q r =
    phase_then old one new (Collecting client waiting waiting) (LettingAll client) (GivesUpAll client waiting) p
    (lets_all client one two new q r) (λ marks midway later first more a b joined shut many.
    let x : Collects client waiting waiting marks first midway = a joined many in
    let y : LetsAll client midway more later = b x.joined in
    let none : length (parcels midway client) ≡ 0 = omega (arith, x.waits) in (
      record {
        collects = first;
        closes = y.closes;
        drops = y.drops;
        are = ap (λ (es : List Entry). first ++ es) y.are;
        as_many = x.many;
        collected = x.are;
        closed = y.closed;
        dropped = y.dropped;
      },
      record {
        shut = y.nothing.shut (x.shut shut);
        parcels = y.nothing.parcels ∙ no_parcel (parcels midway client) none;
        ends = y.ends;
        handles = y.handles;
      },
    ))

-- this many Collects of a client
collects_of : ℕ → ℕ → List Entry
collects_of client zero = []
collects_of client (suc n) =
    (client, Call.Collect, Reply.CollectedHandle (record { collection = 0; index = 0 }) Strength.Strong) ∷ collects_of client n

-- by induction on the count: each step adds one Collect
collects_many : (client n : ℕ) → length (collects_of client n) ≡ n
unfolding collects_of
collects_many client zero = refl
collects_many client (suc n) = omega (arith, collects_many client n)

-- each entry is a Collect of this client that is answered with a parcel
collects_are : (client n : ℕ) → All (IsCollect client) (collects_of client n)
unfolding collects_of
collects_are client zero = All-nil (IsCollect client)
collects_are client (suc n) =
    let entry : Entry = (client, Call.Collect, Reply.CollectedHandle (record { collection = 0; index = 0 }) Strength.Strong) in
    let parcel : Parcel = Parcel.Handle (record { collection = 0; index = 0 }) Strength.Strong in
    All-append (IsCollect client) (entry ∷ []) (collects_of client n)
    (All-push (IsCollect client) [] entry (All-nil (IsCollect client))
    (parcel, ap (λ (b : Bool). cond b (Some parcel) None) (eq-eqb client client refl)))
    (collects_are client n)

-- some of the parcels were collected
pub collects_some : (client waiting count : ℕ) (old new : State) → count ≤ waiting →
    Phase old new (Collecting client waiting count) → Phase old new (Leaving client waiting)
collects_some client waiting count old new few p =
    phase_less old new (Collecting client waiting count) (Leaving client waiting) p (λ marks later events a joined many.
    let x : Collects client waiting count marks events later = a joined many in
    let more : List Entry = collects_of client (waiting - count) in (
      more,
      record {
        collects = events ++ more;
        closes = [];
        drops = [];
        are = sym (append-nil (events ++ more));
        as_many = omega (arith, length-append events more, collects_many client (waiting - count), x.many, few);
        collected = All-append (IsCollect client) events more x.are (collects_are client (waiting - count));
        closed = All-nil (IsClose client);
        dropped = All-nil (IsDrop client);
      },
    ))

-- all were, and the vanishing continues
pub gathered_leaving : (client waiting : ℕ) (old new : State) → Phase old new (Gathered client waiting) →
    Phase old new (Leaving client waiting)
gathered_leaving client waiting old new p =
    phase_less old new (Gathered client waiting) (Leaving client waiting) p (λ marks later events a joined many.
    let x = a joined many in (x.0, x.1))

-- all were, and some ends closed
pub closes_some : (client waiting : ℕ) (old one new : State) → Phase old one (Collecting client waiting waiting) →
    Phase one new (Lets (IsClose client) client Whatever) → Phase old new (Gathered client waiting)
closes_some client waiting old one new p q =
    phase_then old one new (Collecting client waiting waiting) (Lets (IsClose client) client Whatever) (Gathered client waiting) p q
    (λ marks midway later first more a b joined many.
    let x : Collects client waiting waiting marks first midway = a joined many in
    let y = b x.joined in (
      [],
      record {
        collects = first;
        closes = more;
        drops = [];
        are = append_assoc first more [];
        as_many = x.many;
        collected = x.are;
        closed = y.0.are;
        dropped = All-nil (IsDrop client);
      },
      omega (arith, length-append first more, x.many),
    ))

-- all ends were closed, and some handles dropped
record DropsSome (client : ℕ) (events : List Entry) : Type 0 where
  closes : List Entry
  drops : List Entry
  are : events ≡ closes ++ drops
  closed : All (IsClose client) closes
  dropped : All (IsDrop client) drops

-- the Collects, the Closes and these DropHandles are the first events of a vanishing
pub drops_some : (client waiting : ℕ) (old one two new : State) → Phase old one (Collecting client waiting waiting) →
    Phase one two (Lets (IsClose client) client (HoldsAmong client [])) →
    Phase two new (Lets (IsDrop client) client Whatever) → Phase old new (Gathered client waiting)
drops_some client waiting old one two new p q r =
    phase_then old one new (Collecting client waiting waiting) (λ marks events later. has_joined marks client ≡ true →
    DropsSome client events) (Gathered client waiting) p
    (phase_then one two new (Lets (IsClose client) client (HoldsAmong client [])) (Lets (IsDrop client) client Whatever)
    (λ marks events later. has_joined marks client ≡ true → DropsSome client events) q r (λ marks midway later first more a b joined.
    let x = a joined in
    let y = b x.0.nothing.joined in
    record { closes = first; drops = more; are = refl; closed = x.0.are; dropped = y.0.are }))
    (λ marks midway later first more a b joined many.
    let x : Collects client waiting waiting marks first midway = a joined many in
    let y : DropsSome client more = b x.joined in (
      [],
      record {
        collects = first;
        closes = y.closes;
        drops = y.drops;
        are = append-nil (first ++ more) ∙ ap (λ (es : List Entry). first ++ es) y.are;
        as_many = x.many;
        collected = x.are;
        closed = y.closed;
        dropped = y.dropped;
      },
      omega (arith, length-append first more, x.many),
    ))

-- ---- with the Shut before them

-- the events behind a Shut are those of a vanishing
rest_vanish : (client waiting : ℕ) (first more : List Entry) → first ≡ (client, Call.Shut, Reply.Shut waiting) ∷ [] →
    IsRest client waiting more → IsVanish client (first ++ more)
rest_vanish client waiting first more is r = record {
  waiting = waiting;
  collects = r.collects;
  closes = r.closes;
  drops = r.drops;
  are = ap (λ (es : List Entry). es ++ more) is ∙ ap (λ (es : List Entry). (client, Call.Shut, Reply.Shut waiting) ∷ es) r.are;
  as_many = r.as_many;
  collected = r.collected;
  closed = r.closed;
  dropped = r.dropped;
}

-- the client vanished
pub has_left : (client waiting : ℕ) (old one new : State) → Phase old one (λ marks events later. IsShut client waiting events later) →
    Phase one new (GivesUpAll client waiting) → Phase old new (λ marks events later. HasLeft client events later)
has_left client waiting old one new p q =
    phase_then old one new (λ marks events later. IsShut client waiting events later) (GivesUpAll client waiting) (λ marks events later.
    HasLeft client events later) p q (λ marks midway later first more a b.
    let x = b a.joined a.shut a.waits in
    record { is_vanish = rest_vanish client waiting first more a.are x.0; has_vanished = x.1 })

-- it began to
began : (client waiting : ℕ) (old one new : State) → Phase old one (λ marks events later. IsShut client waiting events later) →
    Phase one new (Leaving client waiting) → Phase old new (λ marks events later. IsBegun client VanishFault.HistoryFull events)
began client waiting old one new p q =
    phase_then old one new (λ marks events later. IsShut client waiting events later) (Leaving client waiting) (λ marks events later.
    IsBegun client VanishFault.HistoryFull events) p q (λ marks midway later first more a b.
    let x = b a.joined a.waits in
    (x.0, subst (IsVanish client) (sym (append_assoc first more x.0)) (rest_vanish client waiting first (more ++ x.0) a.are x.1)))

-- the events behind a Shut are those of a vanishing, and this is at least the Shut and the Collects
gathered_vanish : (client waiting : ℕ) (first more rest : List Entry) → first ≡ (client, Call.Shut, Reply.Shut waiting) ∷ [] →
    IsRest client waiting (more ++ rest) → waiting ≤ length more → IsBegun client VanishFault.NoMemory (first ++ more)
gathered_vanish client waiting first more rest is r many = (
  rest,
  record {
    waiting = waiting;
    collects = r.collects;
    closes = r.closes;
    drops = r.drops;
    are = append_assoc first more rest ∙ (ap (λ (es : List Entry). es ++ (more ++ rest)) is
        ∙ ap (λ (es : List Entry). (client, Call.Shut, Reply.Shut waiting) ∷ es) r.are);
    as_many = r.as_many;
    collected = r.collected;
    closed = r.closed;
    dropped = r.dropped;
  },
  omega (arith, length-append first more, ap length is, many),
)

-- it collected all, and began to
began_gathered : (client waiting : ℕ) (old one new : State) → Phase old one (λ marks events later. IsShut client waiting events later) →
    Phase one new (Gathered client waiting) → Phase old new (λ marks events later. IsBegun client VanishFault.NoMemory events)
began_gathered client waiting old one new p q =
    phase_then old one new (λ marks events later. IsShut client waiting events later) (Gathered client waiting) (λ marks events later.
    IsBegun client VanishFault.NoMemory events) p q (λ marks midway later first more a b.
    let x = b a.joined a.waits in
    gathered_vanish client waiting first more x.0 a.are x.1 x.2)

-- what was begun, by the fault
pub has_begun : (client waiting : ℕ) (fault : StepFault) (old one new : State) → Phase old one (λ marks events later.
    IsShut client waiting events later) → Phase one new (Leaving client waiting) →
    (fault ≡ StepFault.NoMemory → Phase one new (Gathered client waiting)) →
    Phase old new (λ marks events later. IsBegun client (part_fault fault) events)
has_begun client waiting StepFault.HistoryFull old one new p q gathered = began client waiting old one new p q
has_begun client waiting StepFault.NoMemory old one new p q gathered = began_gathered client waiting old one new p (gathered refl)

-- where nothing was made, a vanishing is still to come
shut_alone : (client : ℕ) (events : List Entry) → events ≡ [] → (rest : List Entry) × IsVanish client (events ++ rest)
shut_alone client events h = (
  (client, Call.Shut, Reply.Shut 0) ∷ [],
  subst (λ (es : List Entry). IsVanish client (es ++ (client, Call.Shut, Reply.Shut 0) ∷ [])) (sym h)
      (record {
        waiting = 0;
        collects = [];
        closes = [];
        drops = [];
        are = refl;
        as_many = refl;
        collected = All-nil (IsCollect client);
        closed = All-nil (IsClose client);
        dropped = All-nil (IsDrop client);
      }),
)

-- or was not shut
unshut_begun : (client : ℕ) (fault : VanishFault) (events : List Entry) (marks later : Timeline) →
    IsUnshut client fault marks events later →
    IsBegun client fault events
unshut_begun client VanishFault.NoSuchClient events marks later h = h
unshut_begun client VanishFault.HistoryFull events marks later h = shut_alone client events h
unshut_begun client VanishFault.NoMemory events marks later h = absurd h

-- a phase in which the Shut is refused, or not made, begins a vanishing with that fault
pub unshut : (client : ℕ) (fault : VanishFault) (old new : State) → Phase old new (IsUnshut client fault) →
    Phase old new (λ marks events later. IsBegun client fault events)
unshut client fault old new p =
    phase_less old new (IsUnshut client fault) (λ marks events later. IsBegun client fault events) p (λ marks later events h.
    unshut_begun client fault events marks later h)

-- ---- as it is told

-- the state shows a history, but for some firings
abbrev pub ShowsSome : State → Type 0
ShowsSome s = (gone : List Fired) × (history : List Entry) × ShowsBut gone s history

-- the client vanished by this many events
pub vanishes_by : (client count : ℕ) (old new : State) → ShowsSome old → old.events + count ≡ new.events →
    Phase old new (λ marks events later. HasLeft client events later) → Vanishes old new client count
vanishes_by client count old new some many p = record {
  events = p.events;
  many = omega (arith, p.advances.counted, many);
  advances = p.advances;
  is_vanish = (p.so some.0 some.1 some.2).is_vanish;
  vanished = as_read (recalling some.0 new) (some.1 ++ p.events) (p.advances.goes_on some.0 some.1 some.2) client
      (told some.0 some.1 some.2);
  has_vanished = told;
}
  where
    told : (gone : List Fired) (history : List Entry) → ShowsBut gone old history →
        HasVanished (readings (timeline new.pool (history ++ p.events))) client
    told gone history shows =
        subst (λ (n : ℕ). HasVanished (readings (timeline n (history ++ p.events))) client)
        (sym p.advances.pool) (p.so gone history shows).has_vanished

-- or this many events were made before the fault
pub stops_by : (client count : ℕ) (fault : VanishFault) (old new : State) → ShowsSome old → old.events + count ≡ new.events →
    Phase old new (λ marks events later. IsBegun client fault events) →
    (fault ≡ VanishFault.HistoryFull → new.limits.events ≤ new.events) → VanishStops old new client count fault
stops_by client count fault old new some many p full = record {
  events = p.events;
  many = omega (arith, p.advances.counted, many);
  advances = p.advances;
  begun = p.so some.0 some.1 some.2;
  full = full;
}
