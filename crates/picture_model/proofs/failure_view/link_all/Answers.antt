use Rattle.picture_model.proofs.Common.{append_assoc, arith, common_steps, map-append}
use Rattle.picture_model.proofs.failure_view.link_all.Goals as goal

-- one more comes last
pub loop-node-preserved : goal.loop-node-preserved
loop-node-preserved c = grind (arith, common_steps, append_assoc, map-append)
