-- One step of each phase of a vanishing.
use Rattle.core_vanish.proofs.Common.{AdvancesBy, All, All-append, All-nil, All-push, Bool, BufferName, Call, Collecting, Collects, Entry}
use Rattle.core_vanish.proofs.Common.{Err, Fired, GetsNothing, HasAmong, HeldBuffer, HoldsAmong, IfErr, IfOk, IsClose, IsCollect, IsDrop}
use Rattle.core_vanish.proofs.Common.{IsShut, IsUnshut, Lets, List, Node, NodeKey, Phase, Reply, ShowsBut, State, StepFault, Strength}
use Rattle.core_vanish.proofs.Common.{Strong, Timeline, VanishFault, Weak, Whatever, [], all_nodes, ap, arith, both_ways, false}
use Rattle.core_vanish.proofs.Common.{has_joined, held_by_page, holds_end, inl, inr, is_shut, length, length-append, list_any, open_of}
use Rattle.core_vanish.proofs.Common.{parcels, part_fault, readings, readings_of, recalling, refl, same_buffer, same_key, same_key-true}
use Rattle.core_vanish.proofs.Common.{subst, sym, timeline, true, ℕ, ◌++◌, ◌+◌, ◌-◌, ◌<◌, ◌||◌, ◌∙◌, ◌∷◌, ◌≡◌, ◌≤◌}
use Rattle.sm_names.proofs.SamenessLaws.{same_buffer-true, or_cases}
use Rattle.core_vanish.specs.Phases.{waiting_told}
use Rattle.core_vanish.proofs.VanishSteps.{close_told, collect_told, drop_told, shut_on, shut_refused, shut_told}
use Rattle.core_vanish.proofs.PhaseLemmas.{gets_then, lets_none, phase_less, phase_lets, phase_none, phase_one, phase_then}
use Rattle.core_vanish.proofs.StateReads.{has_among, holds_among, holds_read}

-- ---- the Shut

-- it was answered Shut
shut_phase : (old new : State) (client waiting : ℕ) → AdvancesBy old new ((client, Call.Shut, Reply.Shut waiting) ∷ []) →
    Phase old new (λ marks events later. IsShut client waiting events later)
shut_phase old new client waiting a =
    phase_one old new (client, Call.Shut, Reply.Shut waiting) (λ marks events later. IsShut client waiting events later) a
    (λ gone history shows legal. shut_told old.pool old.limits history client waiting legal)

-- or refused
refused_phase : (old new : State) (client : ℕ) (reply : Reply) → AdvancesBy old new ((client, Call.Shut, reply) ∷ []) →
    ((waiting : ℕ) → reply ≡ Reply.Shut waiting → ⊥) → Phase old new (IsUnshut client VanishFault.NoSuchClient)
refused_phase old new client reply a other =
    phase_one old new (client, Call.Shut, reply) (IsUnshut client VanishFault.NoSuchClient) a (λ gone history shows legal.
    ap (λ (r : Reply). (client, Call.Shut, r) ∷ []) (shut_refused old.pool old.limits history client reply legal other))

-- or not made
pub unmade_phase : (old new : State) (client : ℕ) (fault : StepFault) → fault ≡ StepFault.HistoryFull → AdvancesBy old new [] →
    Phase old new (IsUnshut client (part_fault fault))
unmade_phase old new client StepFault.HistoryFull is a = record { events = []; advances = a; so = λ gone history shows. refl }
unmade_phase old new client StepFault.NoMemory is a = absurd (cc)

-- what was answered tells which
pub told_ok : (old new : State) (client : ℕ) (reply : Reply) → AdvancesBy old new ((client, Call.Shut, reply) ∷ []) →
    IfOk (waiting_told reply) (λ waiting. Phase old new (λ marks events later. IsShut client waiting events later))
told_ok old new client (Reply.Shut waiting) a = shut_phase old new client waiting a
told_ok old new client _ a = tt

-- an answer without a number of parcels is not `Reply.Shut`, so the Shut is refused
pub told_err : (old new : State) (client : ℕ) (reply : Reply) → AdvancesBy old new ((client, Call.Shut, reply) ∷ []) →
    IfErr (waiting_told reply) (λ fault. Phase old new (IsUnshut client fault))
told_err old new client (Reply.Shut waiting) a = tt
told_err old new client reply a = refused_phase old new client reply a (λ waiting is. cc)

-- no answer tells that the history is full, so anything follows if one does
pub told_full : {A : Type 0} (reply : Reply) → waiting_told reply ≡ Err VanishFault.HistoryFull → A
told_full (Reply.Shut waiting) h = cc
told_full _ h = cc

-- ---- Collects

-- none were made
pub collect_none : (s : State) (client waiting : ℕ) → Phase s s (Collecting client waiting 0)
collect_none s client waiting =
    phase_none s (Collecting client waiting 0) (λ gone history shows joined many. record {
      many = refl;
      are = All-nil (IsCollect client);
      joined = joined;
      shut = λ h. h;
      waits = omega (arith, many);
    })

-- the next one was made
record CollectsOne (client : ℕ) (entry : Entry) (left : ℕ) (marks : Timeline) (events : List Entry) (later : Timeline) : Type 0 where
  only : events ≡ entry ∷ []
  is : IsCollect client entry
  joined : has_joined later client ≡ true
  shut : is_shut marks client ≡ true → is_shut later client ≡ true
  waits : length (parcels later client) ≡ left

-- the next Collect takes one parcel, so one more is collected and one less waits
pub collect_more : (old mid new : State) (client waiting count left : ℕ) (reply : Reply) → count + left ≡ waiting → 0 < left →
    Phase old mid (Collecting client waiting count) → AdvancesBy mid new ((client, Call.Collect, reply) ∷ []) →
    Phase old new (Collecting client waiting (count + 1))
collect_more old mid new client waiting count left reply adds some p a =
    let entry : Entry = (client, Call.Collect, reply) in
    let One : Timeline → List Entry → Timeline → Type 0 = λ marks events later. has_joined marks client ≡ true →
    length (parcels marks client) ≡ (left - 1) + 1 → CollectsOne client entry (left - 1) marks events later in
    let one : Phase mid new One = phase_one mid new entry One a (λ gone history shows legal joined many.
    let t = collect_told mid.pool mid.limits history client (left - 1) reply legal joined many in
    record { only = refl; is = t.0; joined = t.1; shut = shut_on mid.pool mid.limits history entry legal client; waits = t.2 }) in
    phase_then old mid new (Collecting client waiting count) One (Collecting client waiting (count + 1)) p one
    (λ marks midway later first more f g joined many.
    let x : Collects client waiting count marks first midway = f joined many in
    let here : length (parcels midway client) ≡ (left - 1) + 1 = omega (arith, x.waits, adds, some) in
    let y : CollectsOne client entry (left - 1) midway more later = g x.joined here in
    let all : length (first ++ more) ≡ length first + length more = length-append first more in
    let last : length more ≡ 1 = ap length y.only in
    record {
      many = omega (arith, all, last, x.many);
      are = subst (λ (es : List Entry). All (IsCollect client) (first ++ es)) (sym y.only)
          (All-push (IsCollect client) first entry x.are y.is);
      joined = y.joined;
      shut = λ h. y.shut (x.shut h);
      waits = omega (arith, y.waits, adds, some);
    })

-- ---- Closes and DropHandles

-- nothing was made
pub let_none : (Is : Entry → Type 0) (s : State) (client : ℕ) → Phase s s (Lets Is client Whatever)
let_none Is s client = phase_none s (Lets Is client Whatever) (λ gone history shows. lets_none Is client Whatever (timeline s.pool history) tt)

-- whatever is so of the later marks
pub let_some : (Is : Entry → Type 0) (old new : State) (client : ℕ) (Q : Timeline → Type 0) → Phase old new (Lets Is client Q) →
    Phase old new (Lets Is client Whatever)
let_some Is old new client Q p =
    phase_less old new (Lets Is client Q) (Lets Is client Whatever) p (λ marks later events a joined. ((a joined).0, tt))

-- such events and then more
pub let_on : (Is : Entry → Type 0) (old mid new : State) (client : ℕ) (Q R : Timeline → Type 0) → Phase old mid (Lets Is client Q) →
    Phase mid new (Lets Is client R) → Phase old new (Lets Is client Whatever)
let_on Is old mid new client Q R p q = phase_lets Is client old mid new Q R Whatever p q (λ midway later n x y. tt)

-- the client does not hold the end
pub close_none : (s : State) (client : ℕ) (key : NodeKey) → holds_end (readings_of s) client key ≡ false →
    Phase s s (Lets (IsClose client) client (λ later. holds_end (readings later) client key ≡ false))
close_none s client key h =
    phase_none s (Lets (IsClose client) client (λ later. holds_end (readings later) client key ≡ false)) (λ gone history shows.
    lets_none (IsClose client) client (λ later. holds_end (readings later) client key ≡ false) (timeline s.pool history)
    (sym (holds_read (recalling gone s) history shows client key) ∙ h))

-- it held it
pub close_one : (old new : State) (client : ℕ) (key : NodeKey) (reply : Reply) → holds_end (readings_of old) client key ≡ true →
    AdvancesBy old new ((client, Call.Close key, reply) ∷ []) →
    Phase old new (Lets (IsClose client) client (λ later. holds_end (readings later) client key ≡ false))
close_one old new client key reply h a =
    phase_one old new (client, Call.Close key, reply)
    (Lets (IsClose client) client (λ later. holds_end (readings later) client key ≡ false)) a
    (λ gone history shows legal. close_told old.pool old.limits history client key reply legal
    (sym (holds_read (recalling gone old) history shows client key) ∙ h))

-- what it holds is among the kept nodes
pub close_first : (s : State) (client : ℕ) (nodes : List Node) → nodes ≡ all_nodes s.forest →
    Phase s s (Lets (IsClose client) client (HoldsAmong client nodes))
close_first s client nodes is =
    phase_none s (Lets (IsClose client) client (HoldsAmong client nodes)) (λ gone history shows.
    lets_none (IsClose client) client (HoldsAmong client nodes) (timeline s.pool history)
    (subst (λ (ns : List Node). HoldsAmong client ns (timeline s.pool history)) (sym is) (holds_among (recalling gone s) history shows client)))

-- one of them was looked at
pub close_next : (old mid new : State) (client : ℕ) (node : Node) (nodes others : List Node) → nodes ≡ node ∷ others →
    Phase old mid (Lets (IsClose client) client (HoldsAmong client nodes)) →
    Phase mid new (Lets (IsClose client) client (λ later. holds_end (readings later) client node.key ≡ false)) →
    Phase old new (Lets (IsClose client) client (HoldsAmong client others))
close_next old mid new client node nodes others is p q =
    phase_lets (IsClose client) client old mid new (HoldsAmong client nodes) (λ later. holds_end (readings later) client node.key ≡ false)
    (HoldsAmong client others) p q (λ midway later n among gone key h.
    among_others key (holds_end (readings later) client) gone h
    (subst (λ (ns : List Node). list_any (λ (x : Node). same_key x.key key) ns ≡ true) is (among key (n.ends key h))))
  where
    -- by cases: the key is that of the node that was looked at, whose end is not held, or of another
    among_others : (key : NodeKey) (held : NodeKey → Bool) → held node.key ≡ false → held key ≡ true →
        (same_key node.key key || list_any (λ (x : Node). same_key x.key key) others) ≡ true →
        list_any (λ (x : Node). same_key x.key key) others ≡ true
    among_others key held gone h any = elim (or_cases (same_key node.key key) _ any) [
      | inl here ↦ both_ways (held key) h (ap held (sym (same_key-true node.key key here)) ∙ gone)
      | inr there ↦ there
    ]

-- this many handles of one kind are open
pub drop_first : (s : State) (client : ℕ) (buffer : BufferName) (strength : Strength) (count : ℕ) →
    ((gone : List Fired) (history : List Entry) → ShowsBut gone s history → count ≡ open_of (timeline s.pool history) client buffer strength) →
    Phase s s (Lets (IsDrop client) client (λ later. open_of later client buffer strength ≡ count))
drop_first s client buffer strength count is =
    phase_none s (Lets (IsDrop client) client (λ later. open_of later client buffer strength ≡ count)) (λ gone history shows.
    lets_none (IsDrop client) client (λ later. open_of later client buffer strength ≡ count) (timeline s.pool history)
    (sym (is gone history shows)))

-- one of them was dropped
pub drop_more : (old mid new : State) (client : ℕ) (buffer : BufferName) (strength : Strength) (left : ℕ) (reply : Reply) → 0 < left →
    Phase old mid (Lets (IsDrop client) client (λ later. open_of later client buffer strength ≡ left)) →
    AdvancesBy mid new ((client, Call.DropHandle buffer strength, reply) ∷ []) →
    Phase old new (Lets (IsDrop client) client (λ later. open_of later client buffer strength ≡ left - 1))
drop_more old mid new client buffer strength left reply some p a =
    let entry : Entry = (client, Call.DropHandle buffer strength, reply) in
    let One : Timeline → List Entry → Timeline → Type 0 = λ marks events later. open_of marks client buffer strength ≡ (left - 1) + 1 →
    Lets (IsDrop client) client (λ later. open_of later client buffer strength ≡ left - 1) marks events later in
    let one : Phase mid new One = phase_one mid new entry One a (λ gone history shows legal many.
    drop_told mid.pool mid.limits history client (left - 1) buffer strength reply legal many) in
    phase_then old mid new (Lets (IsDrop client) client (λ later. open_of later client buffer strength ≡ left)) One
    (Lets (IsDrop client) client (λ later. open_of later client buffer strength ≡ left - 1)) p one
    (λ marks midway later first more f g joined.
    let x = f joined in
    let here : open_of midway client buffer strength ≡ (left - 1) + 1 = omega (arith, x.1, some) in
    let y = g here x.0.nothing.joined in (
      record {
        are = All-append (IsDrop client) first more x.0.are y.0.are;
        nothing = gets_then client marks midway later x.0.nothing y.0.nothing;
      },
      y.1,
    ))

-- those of both strengths were
pub drop_strengths : (old mid new : State) (client : ℕ) (buffer : BufferName) →
    Phase old mid (Lets (IsDrop client) client (λ later. open_of later client buffer Strength.Strong ≡ 0)) →
    Phase mid new (Lets (IsDrop client) client (λ later. open_of later client buffer Strength.Weak ≡ 0)) →
    Phase old new (Lets (IsDrop client) client (λ later. (strength : Strength) → open_of later client buffer strength ≡ 0))
drop_strengths old mid new client buffer p q =
    phase_lets (IsDrop client) client old mid new (λ later. open_of later client buffer Strength.Strong ≡ 0) (λ later.
    open_of later client buffer Strength.Weak ≡ 0) (λ later. (strength : Strength) → open_of later client buffer strength ≡ 0) p q
    (λ midway later n strong weak strength. by_strength midway later n strong weak strength)
  where
    -- by cases: no event between opens strong handles
    by_strength : (midway later : Timeline) → GetsNothing client midway later → open_of midway client buffer Strength.Strong ≡ 0 →
        open_of later client buffer Strength.Weak ≡ 0 → (strength : Strength) → open_of later client buffer strength ≡ 0
    by_strength midway later n strong weak Strong =
        let few : open_of later client buffer Strength.Strong ≤ open_of midway client buffer Strength.Strong =
        n.handles buffer Strength.Strong in
        omega (arith, few, strong)
    by_strength midway later n strong weak Weak = weak

-- what it has open is on held buffers
pub drop_held : (s : State) (client : ℕ) (held : List HeldBuffer) → held ≡ held_by_page s.forest →
    Phase s s (Lets (IsDrop client) client (HasAmong client held))
drop_held s client held is =
    phase_none s (Lets (IsDrop client) client (HasAmong client held)) (λ gone history shows.
    lets_none (IsDrop client) client (HasAmong client held) (timeline s.pool history)
    (subst (λ (hs : List HeldBuffer). HasAmong client hs (timeline s.pool history)) (sym is)
    (has_among (recalling gone s) history shows client)))

-- one of them was looked at
pub drop_next : (old mid new : State) (client : ℕ) (one : HeldBuffer) (held others : List HeldBuffer) → held ≡ one ∷ others →
    Phase old mid (Lets (IsDrop client) client (HasAmong client held)) →
    Phase mid new (Lets (IsDrop client) client (λ later. (strength : Strength) → open_of later client one.buffer strength ≡ 0)) →
    Phase old new (Lets (IsDrop client) client (HasAmong client others))
drop_next old mid new client one held others is p q =
    phase_lets (IsDrop client) client old mid new (HasAmong client held) (λ later. (strength : Strength) →
    open_of later client one.buffer strength ≡ 0) (HasAmong client others) p q (λ midway later n among none buffer strength some.
    let few : open_of later client buffer strength ≤ open_of midway client buffer strength = n.handles buffer strength in
    among_others buffer (λ b. open_of later client b strength) (none strength) some
    (subst (λ (hs : List HeldBuffer). list_any (λ (h : HeldBuffer). same_buffer h.buffer buffer) hs ≡ true) is
    (among buffer strength (omega (arith, few, some)))))
  where
    -- by cases: the buffer is the one that was looked at, which has none, or another
    among_others : (buffer : BufferName) (count : BufferName → ℕ) → count one.buffer ≡ 0 → 0 < count buffer →
        (same_buffer one.buffer buffer || list_any (λ (h : HeldBuffer). same_buffer h.buffer buffer) others) ≡ true →
        list_any (λ (h : HeldBuffer). same_buffer h.buffer buffer) others ≡ true
    among_others buffer count none some any = elim (or_cases (same_buffer one.buffer buffer) _ any) [
      | inl here ↦
          let same : count one.buffer ≡ count buffer = ap count (same_buffer-true one.buffer buffer here) in
          absurd (omega (arith, none, some, same))
      | inr there ↦ there
    ]
