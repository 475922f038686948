use Rattle.buffer_holds.proofs.Common.{Some, ap, arith, cell_at, count_in, if◌then◌else◌, page_in, page_of, refl, sym, ◌-◌, ◌==◌, ◌∙◌}
use Rattle.buffer_holds.proofs.Common.{◌≡◌}
use Rattle.buffer_holds.proofs.RowLemmas.{IsSome-lent_at, set_value_at-same}
use Rattle.buffer_holds.proofs.Written.{page_lent, page_written, stood}
use Rattle.buffer_holds.proofs.rows.lower.Goals.{After-get-count}
use Rattle.buffer_holds.proofs.rows.lower.Goals as goal

-- the page is the owner's
lent : (c : After-get-count) → page_in c.args.rows.now.entries c.args.owner ≡ c.unwrap-page.result.now
lent c =
    page_lent c.args.rows.now c.in-Some.place c.args.owner c.in-Some.ensures.found c.get_index_mut.ensures.value c.get_index_mut.ensures.unique c.unwrap-page.ensures

-- without a page there is no row
pub returns-in_default-clause-had : goal.returns-in_default-clause-had
returns-in_default-clause-had c =
    let none = ap (λ o. count_in (page_of o) c.args.slot) c.in_default.ensures.none in
    (λ never. cc, λ some. absurd (omega (arith, none, some)))

-- the page stands there
pub unwrap-page-requires : goal.unwrap-page-requires
unwrap-page-requires c =
    let found = c.in-Some.ensures.found in
    IsSome-lent_at c.args.rows.now c.in-Some.place c.args.owner found.0 found.1 c.get_index_mut.result c.get_index_mut.ensures.value

pub lower-requires-clause-some : goal.lower-requires-clause-some
lower-requires-clause-some c = omega (arith, c.get-count.ensures, c.if-count-eq0.false)

-- a count of nothing
pub returns-then-count-eq0-clause-had : goal.returns-then-count-eq0-clause-had
returns-then-count-eq0-clause-had c =
    let same = ap (λ p. count_in p c.args.slot) (lent (goal.at.returns-then-count-eq0-clause-had c).After-get-count) in
    (λ never. cc, λ some. absurd (omega (arith, same, some, c.get-count.ensures, c.if-count-eq0.true)))

pub returns-then-count-eq0-clause-unchanged : goal.returns-then-count-eq0-clause-unchanged
returns-then-count-eq0-clause-unchanged c =
    set_value_at-same c.args.rows.now.entries c.in-Some.place c.args.owner c.unwrap-page.result.now
    (stood c.args.rows.now c.in-Some.place c.args.owner c.in-Some.ensures.found c.get_index_mut.ensures.value c.get_index_mut.ensures.unique c.unwrap-page.ensures)

-- and one of more
pub returns-clause-had : goal.returns-clause-had
returns-clause-had c =
    let same = ap (λ p. count_in p c.args.slot) (lent (goal.at.returns-clause-had c).After-get-count) in
    (λ is. omega (arith, same, c.get-count.ensures, c.if-count-eq0.false), λ some. refl)

pub returns-clause-lowered : goal.returns-clause-lowered
returns-clause-lowered c =
    page_written c.args.rows.now c.in-Some.place c.args.owner c.in-Some.ensures.found c.get_index_mut.ensures.value c.get_index_mut.ensures.unique
    c.unwrap-page.ensures c.lower.new.self
    (λ at. if c.args.slot == at then Some (count_in (page_in c.args.rows.now.entries c.args.owner) c.args.slot - 1) else
    cell_at (page_in c.args.rows.now.entries c.args.owner) at)
    (λ at. c.lower.ensures at
    ∙ ap (λ p. if c.args.slot == at then Some (count_in p c.args.slot - 1) else cell_at p at)
    (sym (lent (goal.at.returns-clause-lowered c).After-get-count)))
