use Rattle.picture_model.proofs.Common.{arith, length, seen_again, sym, ◌<◌}
use Rattle.picture_model.proofs.Loops.{one-mapped}
use Rattle.picture_model.proofs.picture_state.see_each.Goals as goal

-- one more comes last
pub loop-node-preserved : goal.loop-node-preserved
loop-node-preserved c = λ later finds.
    let within : c.loop-node.node-index < length c.deref-node-items.result.now = omega arith in
    let all = c.deref-node-items.ensures.value in
    one-mapped (seen_again c.args.core.now later) c.args.nodes.now.items c.loop-node.node-index
    c.node-item.result c.seen_after.result c.loop-node.again.items
    c.push.new.self.items (rw all at within) (rw all at (sym c.node-item.is)) (c.loop-node.invariant later finds)
    (c.seen_after.ensures later finds) c.in_ok-push.ensures.items
