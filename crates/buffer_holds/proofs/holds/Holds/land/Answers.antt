use Rattle.buffer_holds.proofs.Common.{Agrees, Bool, Counts, IsSome, Owner, PageBecomes, Part, Some, SumBecomes, ap, arith, cases_lt}
use Rattle.buffer_holds.proofs.Common.{cell_at, count_in, false, false≢true, hold_of, if◌then◌else◌, is_some, kind_of, lookup, owner_of}
use Rattle.buffer_holds.proofs.Common.{page_in, part_of, raised, refl, same_owner, slot_of, subst, sum_in, true, ℕ, ⊎_elim, ◌+◌, ◌-◌, ◌<◌}
use Rattle.buffer_holds.proofs.Common.{◌==◌, ◌≡◌, ◌≤◌}
use Rattle.buffer_holds.proofs.Moves.{agrees_moved, alike_itself, itself_at, moving-has-sum, moving-le-sent, page_mine, page_told}
use Rattle.buffer_holds.proofs.Moves.{sets_moved, still_lies, sum_mine, sum_told}
use Rattle.buffer_holds.proofs.Gaining.{up_to_alike}
use Rattle.buffer_holds.proofs.Runs.{one_is, raised_one}
use Rattle.buffer_holds.proofs.Sound.{held-le-total, page-has-sum, sum-is-known, up_to_after}
use Rattle.buffer_holds.proofs.Written.{page_found}
use Rattle.buffer_holds.proofs.holds.Holds.land.Goals.{In-Ok, In_default, After-land}
use Rattle.buffer_holds.proofs.holds.Holds.land.Goals as goal

-- one is in a parcel
lies : (c : In-Ok) → 0 < count_in (sum_in c.find_places.new.sums.entries c.owner_of-owner.result.part).moving c.slot_of-slot.result
lies c =
    still_lies c.args.client c.args.buffer c.args.strength c.owner_of-owner.ensures c.slot_of-slot.ensures.value c.self.inside.limit
    c.self.inside.places c.self.invariant.0 c.self.view_is c.in-Ok.ensures.alike c.requires

pub raise-requires-clause-there : goal.raise-requires-clause-there
raise-requires-clause-there c = λ at is. omega (arith, one_is c.slot_of-slot.result at is, c.slot_of-slot.ensures.within)

pub raise-requires-clause-fits : goal.raise-requires-clause-fits
raise-requires-clause-fits c = λ at is.
    let here = one_is c.slot_of-slot.result at is in
    let d = (goal.at.raise-requires-clause-fits c).In-Ok in
    omega (
      arith,
      lies d,
      held-le-total c.in-Ok.ensures.agrees c.owner_of-owner.result c.slot_of-slot.result,
      c.in-Ok.ensures.alike.totals c.owner_of-owner.result.part c.slot_of-slot.result,
      c.self.invariant.1 c.owner_of-owner.result.part c.slot_of-slot.result,
      c.self.invariant.2,
      c.self.ranges,
      ap (count_in (page_in c.find_places.new.rows.entries c.owner_of-owner.result)) here,
    )

pub land-requires-clause-some : goal.land-requires-clause-some
land-requires-clause-some c = lies (goal.at.land-requires-clause-some c).In-Ok

-- the page changes
page : (c : After-land) → PageBecomes c.find_places.new.rows.entries c.raise.new.rows.entries
    (owner_of (hold_of c.args.client c.args.buffer c.args.strength)) true
    (λ at. if slot_of (kind_of c.args.buffer c.args.strength) == at then
    Some (count_in (page_in c.find_places.new.rows.entries (owner_of (hold_of c.args.client c.args.buffer c.args.strength)))
    (slot_of (kind_of c.args.buffer c.args.strength)) + 1) else
    cell_at (page_in c.find_places.new.rows.entries (owner_of (hold_of c.args.client c.args.buffer c.args.strength))) at)
page c =
    page_told _ (page_mine c.args.client c.args.buffer c.args.strength c.owner_of-owner.ensures c.slot_of-slot.ensures.value
    (λ (o : Owner) (s : ℕ) (at : ℕ). raised (page_in c.find_places.new.rows.entries o) s 1 at) c.raise.ensures.raised)
    (raised_one (page_in c.find_places.new.rows.entries (owner_of (hold_of c.args.client c.args.buffer c.args.strength)))
    (slot_of (kind_of c.args.buffer c.args.strength)))

-- and the sum with it
sum : (c : After-land) → SumBecomes c.find_places.new.sums.entries c.land.new.sums.entries (part_of (kind_of c.args.buffer c.args.strength))
    (sum_in c.find_places.new.sums.entries (part_of (kind_of c.args.buffer c.args.strength))).clients
    (λ at. if slot_of (kind_of c.args.buffer c.args.strength) == at then
    count_in (sum_in c.find_places.new.sums.entries (part_of (kind_of c.args.buffer c.args.strength))).totals (slot_of (kind_of c.args.buffer c.args.strength)) else count_in (sum_in c.find_places.new.sums.entries (part_of (kind_of c.args.buffer c.args.strength))).totals at)
    (λ at. if slot_of (kind_of c.args.buffer c.args.strength) == at then
    count_in (sum_in c.find_places.new.sums.entries (part_of (kind_of c.args.buffer c.args.strength))).moving (slot_of (kind_of c.args.buffer c.args.strength)) - 1 else count_in (sum_in c.find_places.new.sums.entries (part_of (kind_of c.args.buffer c.args.strength))).moving at)
sum c =
    sum_told _ _ (sum_mine c.args.client c.args.buffer c.args.strength c.owner_of-owner.ensures c.slot_of-slot.ensures.value
    (λ (p : Part) (s : ℕ) (at : ℕ). count_in (sum_in c.find_places.new.sums.entries p).totals at)
    (λ (p : Part) (s : ℕ) (at : ℕ). if s == at then count_in (sum_in c.find_places.new.sums.entries p).moving s - 1 else count_in (sum_in c.find_places.new.sums.entries p).moving at)
    c.land.ensures) (itself_at (slot_of (kind_of c.args.buffer c.args.strength)) (count_in (sum_in c.find_places.new.sums.entries (part_of (kind_of c.args.buffer c.args.strength))).totals)) (λ at. refl)

-- the handle is one of those in parcels
among : (c : After-land) → 0 < count_in (sum_in c.find_places.new.sums.entries (part_of (kind_of c.args.buffer c.args.strength))).moving
    (slot_of (kind_of c.args.buffer c.args.strength))
among c =
    still_lies c.args.client c.args.buffer c.args.strength refl refl c.self.inside.limit c.self.inside.places c.self.invariant.0
    c.self.view_is c.in-Ok.ensures.alike c.requires

-- the client has a page
has_page : (c : After-land) →
    IsSome (lookup (same_owner (owner_of (hold_of c.args.client c.args.buffer c.args.strength))) c.find_places.new.rows.entries)
has_page c =
    subst (λ (o : Owner). IsSome (lookup (same_owner o) c.find_places.new.rows.entries)) c.owner_of-owner.ensures
    (ap is_some (page_found c.find_places.new.rows c.find_places.new.rows c.owner_of-owner.result c.in-Ok.places.row
    c.in-Ok.ensures.row.0 c.in-Ok.ensures.row.1 c.in-Ok.ensures.agrees.rows_distinct))

-- pages and sums agree still
agreed : (c : After-land) → Agrees c.find_places.new.newest c.raise.new.rows.entries c.land.new.sums.entries
agreed c =
    let agrees = c.in-Ok.ensures.agrees in
    let owner = owner_of (hold_of c.args.client c.args.buffer c.args.strength) in
    agrees_moved c.args.client c.args.buffer c.args.strength agrees (λ n. n + 1) (λ n. n - 1) (λ n. n) (page c) (sum c)
    (omega (arith, among c)) (has_page c) (sum-is-known agrees owner.part (page-has-sum agrees owner (has_page c)))

pub invariant_of-self-2 : goal.invariant_of-self-2
invariant_of-self-2 c =
    let at = (goal.at.invariant_of-self-2 c).After-land in (
      agreed at,
      up_to_after (owner_of (hold_of c.args.client c.args.buffer c.args.strength)) (page at) (sum at) c.self.inside.most c.self.inside.most
          (up_to_alike c.self.inside.most c.in-Ok.ensures.alike c.self.invariant.1) (omega arith)
          (λ n. less n (slot_of (kind_of c.args.buffer c.args.strength) == n)),
      c.self.invariant.2,
      omega (arith, c.in-Ok.ensures.free (omega (arith, c.self.invariant.3, c.saturating_sub-left.ensures)), c.raise.ensures.room),
      c.in-Ok.ensures.spared (omega (arith, c.self.invariant.4, c.saturating_sub-left.ensures)),
      c.in-Ok.ensures.blank,
    )
  where
    less : (n : ℕ) (b : Bool) → (if b then count_in (sum_in c.find_places.new.sums.entries (part_of (kind_of c.args.buffer c.args.strength))).totals
        (slot_of (kind_of c.args.buffer c.args.strength)) else
        count_in (sum_in c.find_places.new.sums.entries (part_of (kind_of c.args.buffer c.args.strength))).totals n) ≤ c.self.inside.most
    less n true =
        up_to_alike c.self.inside.most c.in-Ok.ensures.alike c.self.invariant.1 (part_of (kind_of c.args.buffer c.args.strength))
        (slot_of (kind_of c.args.buffer c.args.strength))
    less n false =
        up_to_alike c.self.inside.most c.in-Ok.ensures.alike c.self.invariant.1 (part_of (kind_of c.args.buffer c.args.strength)) n

pub returns-clause-landed : goal.returns-clause-landed
returns-clause-landed c =
    let at = (goal.at.returns-clause-landed c).After-land in
    sets_moved c.args.client c.args.buffer c.args.strength c.in-Ok.ensures.agrees (λ n. n + 1) (λ n. n - 1) (λ n. n) (page at) (sum at)
    c.self.inside.limit c.self.inside.places c.saturating_sub-left.result c.args.self.now c.self.invariant.0 c.in-Ok.ensures.alike
    c.self.view_is (agreed at)

-- the part of a handle in a parcel has a sum, so a place is enough
enough : (c : In_default) → 0 < c.self.inside.places → false ≡ true
enough c some =
    c.in_default.ensures.roomy (moving-has-sum c.self.inside.sums.entries c.owner_of-owner.result.part c.slot_of-slot.result
    (still_lies c.args.client c.args.buffer c.args.strength c.owner_of-owner.ensures c.slot_of-slot.ensures.value c.self.inside.limit
    c.self.inside.places c.self.invariant.0 c.self.view_is (alike_itself c.self.inside.rows.entries c.self.inside.sums.entries) c.requires))
    (omega (arith, some, c.self.invariant.3, c.saturating_sub-left.ensures))
    (omega (arith, some, c.self.invariant.4, c.saturating_sub-left.ensures))

pub invariant_of-self : goal.invariant_of-self
invariant_of-self c = (
  c.in_default.ensures.agrees,
  up_to_alike c.self.inside.most c.in_default.ensures.alike c.self.invariant.1,
  c.self.invariant.2,
  by_places (λ none. omega (arith, none)),
  by_places (λ none. omega (arith, none)),
  c.in_default.ensures.blank,
)
  where
    by_places : {P : Type 0} → (c.self.inside.places ≤ 0 → P) → P
    by_places none =
        ⊎_elim (λ some. absurd (false≢true (enough (goal.at.invariant_of-self c).In_default some))) none (cases_lt 0 c.self.inside.places)

pub returns-in_default-clause-room : goal.returns-in_default-clause-room
returns-in_default-clause-room c = λ some.
    enough (goal.at.returns-in_default-clause-room c).In_default (omega (arith, some, ap (λ (counts : Counts). counts.places) c.self.view_is))

-- a place for each is one for this one
pub returns-in_default-clause-each : goal.returns-in_default-clause-each
returns-in_default-clause-each c = λ each.
    enough (goal.at.returns-in_default-clause-each c).In_default (omega (
      arith,
      each,
      c.requires,
      moving-le-sent c.args.self.now c.args.buffer c.args.strength,
      ap (λ (counts : Counts). counts.places) c.self.view_is,
    ))
