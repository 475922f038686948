use Rattle.picture_model.proofs.Common.{arith, length, seen_in, sym, ◌<◌}
use Rattle.picture_model.proofs.Loops.{one-mapped}
use Rattle.picture_model.proofs.picture.seen_now.Goals as goal

-- one more comes last
pub loop-node-preserved : goal.loop-node-preserved
loop-node-preserved c =
    let within : c.loop-node.node-index < length c.deref-node-items.result.now = omega arith in
    let all = c.deref-node-items.ensures.value in
    one-mapped (seen_in c.args.core.now) c.args.nodes.now.items c.loop-node.node-index
    c.node-item.result c.at_present.result c.loop-node.seen.items
    c.push.new.self.items (rw all at within)
    (rw all at (sym c.node-item.is)) c.loop-node.invariant c.at_present.ensures c.in_ok-push.ensures.items
