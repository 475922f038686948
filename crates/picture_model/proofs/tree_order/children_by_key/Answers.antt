use Rattle.picture_model.proofs.Common.{arith, common_steps, filter-append}
use Rattle.picture_model.proofs.tree_order.children_by_key.Goals as goal

-- one more comes last, or has no parent
pub loop-node-preserved : goal.loop-node-preserved
loop-node-preserved c = λ above. grind (arith, common_steps, filter-append)
