use Rattle.outcome_texts.proofs.Counting.{any_more}
use Rattle.outcome_texts.proofs.makers.makes_in.Goals as goal

-- one more step is below
pub steps-preserved : goal.steps-preserved
steps-preserved c = any_more _ c.steps.at c.steps.found c.makes_at.result c.either-found.result
    c.either-found.ensures c.steps.invariant c.makes_at.ensures
