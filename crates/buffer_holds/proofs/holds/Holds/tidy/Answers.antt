use Rattle.buffer_holds.proofs.Common.{Agrees, IsSome, None, PageBecomes, Tidies, ap, arith, cell_at, hold_of, if◌then◌else◌, is_some}
use Rattle.buffer_holds.proofs.Common.{kind_of, lookup, owner_of, page_in, same_owner, slot_of, subst, sym, tidied, true, ◌==◌, ◌≡◌}
use Rattle.buffer_holds.proofs.Moves.{agrees_tidied, alike_itself, page_mine, tidies_after, tidies_none}
use Rattle.buffer_holds.proofs.Seen.{seen}
use Rattle.buffer_holds.proofs.Written.{page_found}
use Rattle.buffer_holds.proofs.holds.Holds.tidy.Goals.{After-clear, else-clear-via-then-clear+else-self-row, else-clear-via-else-clear}
use Rattle.buffer_holds.proofs.holds.Holds.tidy.Goals as goal

-- without a page there is nothing to tidy
pub returns-in_default : goal.returns-in_default
returns-in_default c =
    subst (λ counts. Tidies counts counts c.args.client c.args.buffer c.args.strength) c.self.view_is
    (tidies_none c.self.inside.limit c.self.inside.places c.self.invariant.0 c.args.client c.args.buffer c.args.strength
    (subst (λ o. lookup (same_owner o) c.self.inside.rows.entries ≡ None) c.owner_of-owner.ensures c.in_default.ensures.none))

-- the cell is emptied
page : (c : After-clear) → PageBecomes c.self.inside.rows.entries c.clear.new.rows.entries
    (owner_of (hold_of c.args.client c.args.buffer c.args.strength)) true
    (λ at. if slot_of (kind_of c.args.buffer c.args.strength) == at then
    tidied (cell_at (page_in c.self.inside.rows.entries (owner_of (hold_of c.args.client c.args.buffer c.args.strength)))
    (slot_of (kind_of c.args.buffer c.args.strength))) else
    cell_at (page_in c.self.inside.rows.entries (owner_of (hold_of c.args.client c.args.buffer c.args.strength))) at)
page c =
    page_mine c.args.client c.args.buffer c.args.strength c.owner_of-owner.ensures c.slot_of.ensures.value
    (λ o s at. if s == at then tidied (cell_at (page_in c.self.inside.rows.entries o) s) else
    cell_at (page_in c.self.inside.rows.entries o) at) c.clear.ensures.tidied

-- pages and sums agree still
agreed : (c : After-clear) → Agrees c.self.inside.newest c.clear.new.rows.entries c.self.inside.sums.entries
agreed c =
    agrees_tidied c.self.invariant.0 c.args.client c.args.buffer c.args.strength (page c)
    (subst (λ o. IsSome (lookup (same_owner o) c.self.inside.rows.entries)) c.owner_of-owner.ensures
    (ap is_some (page_found c.self.inside.rows c.self.inside.rows c.owner_of-owner.result c.in-Some.row c.in-Some.ensures.found.0
    c.in-Some.ensures.found.1 c.self.invariant.0.rows_distinct)))

pub keep_blank-requires-clause-agrees : goal.keep_blank-requires-clause-agrees
keep_blank-requires-clause-agrees c = agreed (goal.at.keep_blank-requires-clause-agrees c).After-clear

-- the page stays
pub invariant_of-self-else-self-row : goal.invariant_of-self-else-self-row
invariant_of-self-else-self-row c = (
  agreed (goal.at.invariant_of-self-else-self-row c).After-clear,
  c.self.invariant.1,
  c.self.invariant.2,
  omega (arith, c.self.invariant.3, c.clear.ensures.room),
  c.self.invariant.4,
  c.self.invariant.5,
)

pub invariant_of-self-else-clear : goal.invariant_of-self-else-clear
invariant_of-self-else-clear c = (
  agreed (goal.at.invariant_of-self-else-clear c).After-clear,
  c.self.invariant.1,
  c.self.invariant.2,
  omega (arith, c.self.invariant.3, c.clear.ensures.room),
  c.self.invariant.4,
  c.self.invariant.5,
)

-- another one may go
pub returns-then-self-row : goal.returns-then-self-row
returns-then-self-row c =
    tidies_after c.self.invariant.0 c.args.client c.args.buffer c.args.strength (page (goal.at.returns-then-self-row c).After-clear)
    c.self.inside.limit c.self.inside.places c.args.self.now c.keep_blank.ensures.alike c.self.view_is c.keep_blank.ensures.agrees

-- or none
tidies : (c : After-clear) → Tidies c.args.self.now
    (seen c.self.inside.limit c.self.inside.places c.clear.new.rows.entries c.self.inside.sums.entries) c.args.client c.args.buffer
    c.args.strength
tidies c =
    tidies_after c.self.invariant.0 c.args.client c.args.buffer c.args.strength (page c) c.self.inside.limit c.self.inside.places
    c.args.self.now (alike_itself c.clear.new.rows.entries c.self.inside.sums.entries) c.self.view_is (agreed c)

pub returns-else-clear : goal.returns-else-clear
returns-else-clear c =
    subst (λ counts. Tidies c.args.self.now counts c.args.client c.args.buffer c.args.strength) is
    (tidies (goal.at.returns-else-clear c).After-clear)
  where
    is : seen c.self.inside.limit c.self.inside.places c.clear.new.rows.entries c.self.inside.sums.entries ≡ c.else-clear.self
    is = elim c.else-clear.branch [
      | else-clear-via-then-clear+else-self-row w ↦ sym w.self-is
      | else-clear-via-else-clear w ↦ sym w.self-is
    ]
