use Rattle.outcome_texts.proofs.Common.{add-one, arith, common_steps}
use Rattle.outcome_texts.proofs.facts.waits.Goals as goal

-- one more number is below
pub actors-preserved : goal.actors-preserved
actors-preserved c = grind (arith, common_steps, add-one)
