use Rattle.buffer_holds.proofs.Common.{Sum, ap, arith, count_in, sum_in, sym, ◌+◌, ◌-◌, ◌≡◌}
use Rattle.buffer_holds.proofs.RowLemmas.{IsSome-lent_at}
use Rattle.buffer_holds.proofs.Written.{set_stands, sum_lent, sum_written}
use Rattle.buffer_holds.proofs.sums.enter.Goals.{After-unwrap-sum}
use Rattle.buffer_holds.proofs.sums.enter.Goals as goal

-- the sum stands there
pub unwrap-sum-requires : goal.unwrap-sum-requires
unwrap-sum-requires c =
    let found = c.requires.stands in
    IsSome-lent_at c.args.sums.now c.args.place c.args.part found.0 found.1 c.get_index_mut.result c.get_index_mut.ensures.value

-- it is the part's
lent : (c : After-unwrap-sum) → sum_in c.args.sums.now.entries c.args.part ≡ c.unwrap-sum.result.now
lent c = sum_lent c.args.sums.now c.args.place c.args.part c.requires.stands c.get_index_mut.ensures.value c.get_index_mut.ensures.unique c.unwrap-sum.ensures

pub overflow_add-sum : goal.overflow_add-sum
overflow_add-sum c = omega (arith, c.requires.fits, ap (λ (s : Sum). s.clients) (lent (goal.at.overflow_add-sum c).After-unwrap-sum))

pub returns-clause-entered : goal.returns-clause-entered
returns-clause-entered c =
    let same = lent (goal.at.returns-clause-entered c).After-unwrap-sum in
    sum_written c.args.sums.now c.args.place c.args.part c.requires.stands c.get_index_mut.ensures.value c.get_index_mut.ensures.unique c.unwrap-sum.ensures
    (record c.unwrap-sum.result.now { clients = c.unwrap-sum.result.now.clients + 1 }) _ _ _
    (ap (λ (s : Sum). s.clients + 1) (sym same)) (λ at. ap (λ (s : Sum). count_in s.totals at) (sym same))
    (λ at. ap (λ (s : Sum). count_in s.moving at) (sym same))

-- and it stands there still
pub returns-clause-stands : goal.returns-clause-stands
returns-clause-stands c =
    let sum : Sum = record c.unwrap-sum.result.now { clients = c.unwrap-sum.result.now.clients + 1 } in (
      sum,
      set_stands c.args.sums.now c.args.place c.args.part c.requires.stands.0 sum c.requires.stands.1,
    )
