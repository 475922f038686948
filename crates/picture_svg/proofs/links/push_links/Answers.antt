use Rattle.picture_svg.proofs.Common.{arith, box_link, one-more, sym}
use Rattle.picture_svg.proofs.links.push_links.Goals as goal

-- one more comes last
pub loop-node_box-preserved : goal.loop-node_box-preserved
loop-node_box-preserved c = λ steps finds.
    one-more (box_link steps c.args.width) c.args.boxes.now c.loop-node_box.node_box-index c.node_box-item.result c.args.body.now.items
    c.loop-node_box.body.items c.push_box_link.new.body.items (omega arith) (sym c.node_box-item.is)
    (c.loop-node_box.invariant steps finds) (c.in_ok-push_box_link.ensures steps finds)
