use Rattle.buffer_holds.proofs.Common.{Agrees, Bool, IsSome, IsTrue, PageBecomes, Part, Some, SumBecomes, arith, cell_at, count_in, false}
use Rattle.buffer_holds.proofs.Common.{false≢true, hold_of, if◌then◌else◌, kind_of, of, owner_of, page_in, part_of, refl, slot_of, subst}
use Rattle.buffer_holds.proofs.Common.{sum_in, true, ℕ, ◌+◌, ◌-◌, ◌<◌, ◌==◌, ◌↔◌, ◌≡◌, ◌≤◌}
use Rattle.buffer_holds.proofs.Moves.{agrees_moved, alike_itself, count_seen, itself_at, page_mine, sets_moved, sum_mine, sum_told}
use Rattle.buffer_holds.proofs.Sound.{count-has-page, held-le-total, page-has-sum, sum-is-known, up_to_after}
use Rattle.buffer_holds.proofs.holds.Holds.lift.Goals.{After-lower, After-lift}
use Rattle.buffer_holds.proofs.holds.Holds.lift.Goals as goal

-- the count is that of the cell
count : (c : After-lower) → count_in (page_in c.self.inside.rows.entries c.owner_of-owner.result) c.slot_of-slot.result
    ≡ of c.args.self.now c.args.client c.args.buffer c.args.strength
count c =
    count_seen c.args.client c.args.buffer c.args.strength c.owner_of-owner.ensures c.slot_of-slot.ensures.value c.self.inside.limit
    c.self.inside.places c.self.invariant.0 c.self.view_is

pub returns-then-not-lower-clause-had : goal.returns-then-not-lower-clause-had
returns-then-not-lower-clause-had c =
    subst (λ n. IsTrue false ↔ (0 < n)) (count (goal.at.returns-then-not-lower-clause-had c).After-lower) c.if-not-lower.ensures.had

pub returns-clause-had : goal.returns-clause-had
returns-clause-had c =
    subst (λ n. IsTrue true ↔ (0 < n)) (count (goal.at.returns-clause-had c).After-lower) c.if-not-lower.ensures.had

-- the client has a page, and so its part a sum
pub unreachable-requires : goal.unreachable-requires
unreachable-requires c =
    let some = page-has-sum c.self.invariant.0 c.owner_of-owner.result (count-has-page c.self.invariant.0 c.owner_of-owner.result
    c.slot_of-slot.result (c.if-not-lower.ensures.had.0 refl)) in
    let clash = subst IsSome c.in_default.ensures.none some in
    absurd (false≢true clash)

-- the page changes
page : (c : After-lift) → PageBecomes c.self.inside.rows.entries c.lower.new.rows.entries
    (owner_of (hold_of c.args.client c.args.buffer c.args.strength)) true
    (λ at. if slot_of (kind_of c.args.buffer c.args.strength) == at then
    Some (count_in (page_in c.self.inside.rows.entries (owner_of (hold_of c.args.client c.args.buffer c.args.strength)))
    (slot_of (kind_of c.args.buffer c.args.strength)) - 1) else
    cell_at (page_in c.self.inside.rows.entries (owner_of (hold_of c.args.client c.args.buffer c.args.strength))) at)
page c =
    page_mine c.args.client c.args.buffer c.args.strength c.owner_of-owner.ensures c.slot_of-slot.ensures.value
    (λ o s at. if s == at then Some (count_in (page_in c.self.inside.rows.entries o) s - 1) else
    cell_at (page_in c.self.inside.rows.entries o) at) c.if-not-lower.ensures.lowered

-- and the sum with it
sum : (c : After-lift) → SumBecomes c.self.inside.sums.entries c.lift.new.sums.entries (part_of (kind_of c.args.buffer c.args.strength))
    (sum_in c.self.inside.sums.entries (part_of (kind_of c.args.buffer c.args.strength))).clients
    (λ at. if slot_of (kind_of c.args.buffer c.args.strength) == at then
    count_in (sum_in c.self.inside.sums.entries (part_of (kind_of c.args.buffer c.args.strength))).totals (slot_of (kind_of c.args.buffer c.args.strength)) else count_in (sum_in c.self.inside.sums.entries (part_of (kind_of c.args.buffer c.args.strength))).totals at)
    (λ at. if slot_of (kind_of c.args.buffer c.args.strength) == at then
    count_in (sum_in c.self.inside.sums.entries (part_of (kind_of c.args.buffer c.args.strength))).moving (slot_of (kind_of c.args.buffer c.args.strength)) + 1 else count_in (sum_in c.self.inside.sums.entries (part_of (kind_of c.args.buffer c.args.strength))).moving at)
sum c =
    sum_told _ _ (sum_mine c.args.client c.args.buffer c.args.strength c.owner_of-owner.ensures c.slot_of-slot.ensures.value
    (λ (p : Part) (s : ℕ) (at : ℕ). count_in (sum_in c.self.inside.sums.entries p).totals at)
    (λ (p : Part) (s : ℕ) (at : ℕ). if s == at then count_in (sum_in c.self.inside.sums.entries p).moving s + 1 else count_in (sum_in c.self.inside.sums.entries p).moving at)
    c.lift.ensures) (itself_at (slot_of (kind_of c.args.buffer c.args.strength)) (count_in (sum_in c.self.inside.sums.entries (part_of (kind_of c.args.buffer c.args.strength))).totals)) (λ at. refl)

-- the client's handle is one of all
among : (c : After-lift) → 0 < count_in (page_in c.self.inside.rows.entries (owner_of (hold_of c.args.client c.args.buffer c.args.strength)))
    (slot_of (kind_of c.args.buffer c.args.strength))
among c =
    subst (λ n. 0 < n) (λ i. count_in (page_in c.self.inside.rows.entries (c.owner_of-owner.ensures i)) (c.slot_of-slot.ensures.value i))
    (c.if-not-lower.ensures.had.0 refl)

-- pages and sums agree still
agreed : (c : After-lift) → Agrees c.self.inside.newest c.lower.new.rows.entries c.lift.new.sums.entries
agreed c =
    let agrees = c.self.invariant.0 in
    let owner = owner_of (hold_of c.args.client c.args.buffer c.args.strength) in
    let slot = slot_of (kind_of c.args.buffer c.args.strength) in
    let some = count-has-page agrees owner slot (among c) in
    agrees_moved c.args.client c.args.buffer c.args.strength agrees (λ n. n - 1) (λ n. n + 1) (λ n. n) (page c) (sum c)
    (omega (arith, among c, held-le-total agrees owner slot)) some (sum-is-known agrees owner.part (page-has-sum agrees owner some))

pub invariant_of-self-2 : goal.invariant_of-self-2
invariant_of-self-2 c =
    let at = (goal.at.invariant_of-self-2 c).After-lift in (
      agreed at,
      up_to_after (owner_of (hold_of c.args.client c.args.buffer c.args.strength)) (page at) (sum at) c.self.inside.most c.self.inside.most
          c.self.invariant.1 (omega arith) (λ n. less n (slot_of (kind_of c.args.buffer c.args.strength) == n)),
      c.self.invariant.2,
      omega (arith, c.self.invariant.3, c.lower.ensures.room),
      c.self.invariant.4,
      c.self.invariant.5,
    )
  where
    less : (n : ℕ) (b : Bool) → (if b then count_in (sum_in c.self.inside.sums.entries (part_of (kind_of c.args.buffer c.args.strength))).totals
        (slot_of (kind_of c.args.buffer c.args.strength)) else
        count_in (sum_in c.self.inside.sums.entries (part_of (kind_of c.args.buffer c.args.strength))).totals n) ≤ c.self.inside.most
    less n true =
        omega (
          arith,
          c.self.invariant.1 (part_of (kind_of c.args.buffer c.args.strength)) (slot_of (kind_of c.args.buffer c.args.strength)),
        )
    less n false = c.self.invariant.1 (part_of (kind_of c.args.buffer c.args.strength)) n

pub returns-clause-lifted : goal.returns-clause-lifted
returns-clause-lifted c =
    let at = (goal.at.returns-clause-lifted c).After-lift in
    sets_moved c.args.client c.args.buffer c.args.strength c.self.invariant.0 (λ n. n - 1) (λ n. n + 1) (λ n. n) (page at) (sum at) c.self.inside.limit
    c.self.inside.places c.self.inside.places c.args.self.now c.self.invariant.0
    (alike_itself c.self.inside.rows.entries c.self.inside.sums.entries) c.self.view_is (agreed at)
