use Rattle.picture_model.proofs.Common.{arith, common_steps, find-append}
use Rattle.picture_model.proofs.failure_view.travels_by_node.Goals as goal

-- one more comes last
pub loop-travel-preserved : goal.loop-travel-preserved
loop-travel-preserved c = λ node. grind (arith, common_steps, find-append)
