use Rattle.buffer_holds.proofs.Common.{Sum, ap, arith, count_in, is_in, subst, sum_in, sym, unwrap_or, ◌+◌, ◌-◌, ◌<◌, ◌^◌, ◌∙◌, ◌≡◌}
use Rattle.buffer_holds.proofs.RowLemmas.{IsSome-lent_at}
use Rattle.buffer_holds.proofs.Runs.{one_if, raised_count}
use Rattle.buffer_holds.proofs.Written.{sum_lent, sum_written}
use Rattle.buffer_holds.proofs.sums.open.Goals.{After-unwrap-sum}
use Rattle.buffer_holds.proofs.sums.open.Goals as goal

-- the sum stands there
pub unwrap-sum-requires : goal.unwrap-sum-requires
unwrap-sum-requires c =
    let found = c.requires.stands in
    IsSome-lent_at c.args.sums.now c.args.place c.args.part found.0 found.1 c.get_index_mut.result c.get_index_mut.ensures.value

-- it is the part's
lent : (c : After-unwrap-sum) → sum_in c.args.sums.now.entries c.args.part ≡ c.unwrap-sum.result.now
lent c = sum_lent c.args.sums.now c.args.place c.args.part c.requires.stands c.get_index_mut.ensures.value c.get_index_mut.ensures.unique c.unwrap-sum.ensures

pub raise-requires-clause-fits : goal.raise-requires-clause-fits
raise-requires-clause-fits c = λ at is.
    subst (λ (s : Sum). count_in s.totals at + 1 < 2 ^ 32) (lent (goal.at.raise-requires-clause-fits c).After-unwrap-sum)
    (c.requires.fits at is)

pub returns-clause-opened : goal.returns-clause-opened
returns-clause-opened c =
    let same = lent (goal.at.returns-clause-opened c).After-unwrap-sum in
    sum_written c.args.sums.now c.args.place c.args.part c.requires.stands c.get_index_mut.ensures.value c.get_index_mut.ensures.unique c.unwrap-sum.ensures
    (record c.unwrap-sum.result.now { totals = c.raise.new.self }) _ _ _ (ap (λ (s : Sum). s.clients) (sym same))
    (λ at. ap (λ o. unwrap_or o 0) (c.raise.ensures.raised at)
    ∙ raised_count c.unwrap-sum.result.now.totals c.args.first c.args.set at
    ∙ ap (λ (s : Sum). count_in s.totals at + one_if (is_in c.args.first c.args.set at)) (sym same))
    (λ at. ap (λ (s : Sum). count_in s.moving at) (sym same))

pub returns-clause-most : goal.returns-clause-most
returns-clause-most c = λ at is.
    let same = lent (goal.at.returns-clause-most c).After-unwrap-sum in
    omega (
      arith,
      c.raise.ensures.most at is,
      ap (λ o. unwrap_or o 0) (c.raise.ensures.raised at) ∙ raised_count c.unwrap-sum.result.now.totals c.args.first c.args.set at
          ∙ ap (λ b. count_in c.unwrap-sum.result.now.totals at + one_if b) is,
      ap (λ (s : Sum). count_in s.totals at) same,
    )

pub returns-clause-least : goal.returns-clause-least
returns-clause-least c = λ most all.
    let same = lent (goal.at.returns-clause-least c).After-unwrap-sum in
    c.raise.ensures.least most (λ at is. omega (
      arith,
      all at is,
      ap (λ o. unwrap_or o 0) (c.raise.ensures.raised at) ∙ raised_count c.unwrap-sum.result.now.totals c.args.first c.args.set at
          ∙ ap (λ b. count_in c.unwrap-sum.result.now.totals at + one_if b) is,
      ap (λ (s : Sum). count_in s.totals at) same,
    ))
