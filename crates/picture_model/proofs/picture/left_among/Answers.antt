use Rattle.picture_model.proofs.Common.{arith, common_steps, filter-append, map-append}
use Rattle.picture_model.proofs.picture.left_among.Goals as goal

-- one more comes last, or is left out
pub loop-node-preserved : goal.loop-node-preserved
loop-node-preserved c = λ found finds.
    grind (arith, common_steps, map-append, filter-append, c.loop-node.invariant found finds, c.went.ensures found finds)
