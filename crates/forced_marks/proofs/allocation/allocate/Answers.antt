use Rattle.forced_marks.proofs.Common.{arith, given_buffers}
use Rattle.forced_marks.proofs.InPlace.{map_step}
use Rattle.forced_marks.proofs.allocation.allocate.Goals as goal

pub loop-node-preserved : goal.loop-node-preserved
loop-node-preserved c =
    map_step (given_buffers c.args.head) c.args.nodes.now c.loop-node.nodes c.loop-node.node-index c.node-item.result _
    (omega arith) c.loop-node.invariant c.node-item.is c.mark_allocated.ensures
