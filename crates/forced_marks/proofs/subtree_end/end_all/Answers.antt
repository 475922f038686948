use Rattle.forced_marks.proofs.Common.{arith, has, left_by}
use Rattle.forced_marks.proofs.InPlace.{map_step}
use Rattle.forced_marks.proofs.subtree_end.end_all.Goals as goal

pub loop-node-preserved : goal.loop-node-preserved
loop-node-preserved c =
    map_step (left_by (has c.args.taken.now)) c.args.nodes.now c.loop-node.nodes c.loop-node.node-index c.node-item.result _
    (omega arith) c.loop-node.invariant c.node-item.is c.mark_ended.ensures
