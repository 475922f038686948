use Rattle.forced_marks.proofs.Common.{arith, has, lost}
use Rattle.forced_marks.proofs.InPlace.{map_step}
use Rattle.forced_marks.proofs.losses.fail_all.Goals as goal

pub loop-node-preserved : goal.loop-node-preserved
loop-node-preserved c =
    map_step (lost (λ n. has c.args.taken.now n.key) c.args.fault) c.args.nodes.now c.loop-node.nodes c.loop-node.node-index
    c.node-item.result _ (omega arith) c.loop-node.invariant c.node-item.is c.fail.ensures
