use Rattle.picture_model.proofs.Common.{arith, common_steps, filter-append}
use Rattle.picture_model.proofs.failure_view.reached_past.Goals as goal

-- one more comes last, or is left out
pub loop-node-preserved : goal.loop-node-preserved
loop-node-preserved c = grind (arith, common_steps, filter-append)
