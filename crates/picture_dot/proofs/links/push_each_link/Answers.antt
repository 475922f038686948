use Rattle.picture_dot.proofs.Common.{arith, common_steps, get_or, length, link_to, one-more, ◌<◌, ◌≡◌}
use Rattle.picture_dot.proofs.links.push_each_link.Goals as goal

-- one more comes last
pub loop-node-preserved : goal.loop-node-preserved
loop-node-preserved c = λ all found links went.
    let within : c.loop-node.node-index < length c.args.nodes.now = omega arith in
    let is : get_or c.args.nodes.now c.loop-node.node-index c.node-item.result ≡ c.node-item.result = grind (arith, common_steps) in
    one-more (link_to all links) c.args.nodes.now c.loop-node.node-index c.node-item.result c.args.text.now.items c.loop-node.text.items
    c.push_link_of.new.text.items within is (c.loop-node.invariant all found links went) (c.in_ok-push_link_of.ensures all found links went)
