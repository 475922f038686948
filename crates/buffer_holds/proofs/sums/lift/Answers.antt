use Rattle.buffer_holds.proofs.Common.{Bool, List, Option, Some, Sum, ap, arith, cell_at, count_in, false, if◌then◌else◌, refl, sum_in}
use Rattle.buffer_holds.proofs.Common.{sym, true, unwrap_or, ℕ, ◌+◌, ◌-◌, ◌==◌, ◌∙◌, ◌≡◌}
use Rattle.buffer_holds.proofs.RowLemmas.{IsSome-lent_at}
use Rattle.buffer_holds.proofs.Runs.{one_is, raised_one}
use Rattle.buffer_holds.proofs.Written.{sum_lent, sum_written}
use Rattle.buffer_holds.proofs.sums.lift.Goals.{After-unwrap-sum}
use Rattle.buffer_holds.proofs.sums.lift.Goals as goal

-- the sum stands there
pub unwrap-sum-requires : goal.unwrap-sum-requires
unwrap-sum-requires c =
    let found = c.requires.stands in
    IsSome-lent_at c.args.sums.now c.args.place c.args.part found.0 found.1 c.get_index_mut.result c.get_index_mut.ensures.value

-- it is the part's
lent : (c : After-unwrap-sum) → sum_in c.args.sums.now.entries c.args.part ≡ c.unwrap-sum.result.now
lent c = sum_lent c.args.sums.now c.args.place c.args.part c.requires.stands c.get_index_mut.ensures.value c.get_index_mut.ensures.unique c.unwrap-sum.ensures

pub raise-requires-clause-there : goal.raise-requires-clause-there
raise-requires-clause-there c = λ at is. omega (arith, one_is c.args.slot at is, c.requires.within)

pub raise-requires-clause-fits : goal.raise-requires-clause-fits
raise-requires-clause-fits c = λ at is.
    omega (
      arith,
      c.requires.fits,
      ap (λ (s : Sum). count_in s.moving c.args.slot) (lent (goal.at.raise-requires-clause-fits c).After-unwrap-sum),
      ap (count_in c.unwrap-sum.result.now.moving) (one_is c.args.slot at is),
    )

pub returns : goal.returns
returns c =
    let same = lent (goal.at.returns c).After-unwrap-sum in
    sum_written c.args.sums.now c.args.place c.args.part c.requires.stands c.get_index_mut.ensures.value c.get_index_mut.ensures.unique c.unwrap-sum.ensures
    (record c.unwrap-sum.result.now { moving = c.raise.new.self }) _ _ _ (ap (λ (s : Sum). s.clients) (sym same))
    (λ at. ap (λ (s : Sum). count_in s.totals at) (sym same))
    (λ at. ap (λ o. unwrap_or o 0) (c.raise.ensures.raised at ∙ raised_one c.unwrap-sum.result.now.moving c.args.slot at)
    ∙ by (c.args.slot == at) c.unwrap-sum.result.now.moving at
    ∙ ap (λ (s : Sum). if c.args.slot == at then count_in s.moving c.args.slot + 1 else count_in s.moving at) (sym same))
  where
    by : (b : Bool) (page : List (Option ℕ)) (at : ℕ) → unwrap_or (if b then Some (count_in page c.args.slot + 1) else cell_at page at) 0
        ≡ (if b then count_in page c.args.slot + 1 else count_in page at)
    by true page at = refl
    by false page at = refl
