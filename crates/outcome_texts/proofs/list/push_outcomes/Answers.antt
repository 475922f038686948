use Rattle.outcome_texts.proofs.Common.{add-one, append_assoc, arith, common_steps}
use Rattle.outcome_texts.proofs.list.push_outcomes.Goals as goal

-- one more comes last
pub outcomes-preserved : goal.outcomes-preserved
outcomes-preserved c = grind (arith, common_steps, add-one, append_assoc)
