use Rattle.buffer_holds.proofs.Common.{Sum, ap, arith, count_in, if◌then◌else◌, sum_in, sym, ◌-◌, ◌==◌, ◌∙◌, ◌≡◌}
use Rattle.buffer_holds.proofs.RowLemmas.{IsSome-lent_at}
use Rattle.buffer_holds.proofs.Written.{sum_lent, sum_written}
use Rattle.buffer_holds.proofs.sums.land.Goals.{After-unwrap-sum}
use Rattle.buffer_holds.proofs.sums.land.Goals as goal

-- the sum stands there
pub unwrap-sum-requires : goal.unwrap-sum-requires
unwrap-sum-requires c =
    let found = c.requires.stands in
    IsSome-lent_at c.args.sums.now c.args.place c.args.part found.0 found.1 c.get_index_mut.result c.get_index_mut.ensures.value

-- it is the part's
lent : (c : After-unwrap-sum) → sum_in c.args.sums.now.entries c.args.part ≡ c.unwrap-sum.result.now
lent c = sum_lent c.args.sums.now c.args.place c.args.part c.requires.stands c.get_index_mut.ensures.value c.get_index_mut.ensures.unique c.unwrap-sum.ensures

pub take-requires-clause-some : goal.take-requires-clause-some
take-requires-clause-some c =
    omega (
      arith,
      c.requires.some,
      ap (λ (s : Sum). count_in s.moving c.args.slot) (lent (goal.at.take-requires-clause-some c).After-unwrap-sum),
    )

pub returns : goal.returns
returns c =
    let same = lent (goal.at.returns c).After-unwrap-sum in
    sum_written c.args.sums.now c.args.place c.args.part c.requires.stands c.get_index_mut.ensures.value c.get_index_mut.ensures.unique c.unwrap-sum.ensures
    (record c.unwrap-sum.result.now { moving = c.take.new.self }) _ _ _ (ap (λ (s : Sum). s.clients) (sym same))
    (λ at. ap (λ (s : Sum). count_in s.totals at) (sym same))
    (λ at. c.take.ensures at
    ∙ ap (λ (s : Sum). if c.args.slot == at then count_in s.moving c.args.slot - 1 else count_in s.moving at) (sym same))
