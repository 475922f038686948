use Rattle.picture_model.proofs.Common.{arith, common_steps, find-append}
use Rattle.picture_model.proofs.tree_order.nodes_by_key.Goals as goal

-- one more comes last
pub loop-node-preserved : goal.loop-node-preserved
loop-node-preserved c = λ key. grind (arith, common_steps, find-append)
