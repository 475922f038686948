use Rattle.picture_model.proofs.Common.{arith, left_if, length, sym, ◌<◌}
use Rattle.picture_model.proofs.Loops.{one-mapped}
use Rattle.picture_model.proofs.picture_state.left_among.Goals as goal

-- one more comes last
pub loop-node-preserved : goal.loop-node-preserved
loop-node-preserved c = λ below is.
    let within : c.loop-node.node-index < length c.deref-node-items.result.now = omega arith in
    let all = c.deref-node-items.ensures.value in
    one-mapped (left_if c.args.fault below) c.args.nodes.now.items c.loop-node.node-index
    c.node-item.result c.left_if.result c.loop-node.later.items
    c.push.new.self.items (rw all at within) (rw all at (sym c.node-item.is)) (c.loop-node.invariant below is)
    (c.left_if.ensures below is) c.in_ok-push.ensures.items
