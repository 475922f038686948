use Rattle.picture_svg.proofs.Common.{arith, one-more, svg_box, sym}
use Rattle.picture_svg.proofs.tree.push_boxes.Goals as goal

-- one more comes last
pub loop-node_box-preserved : goal.loop-node_box-preserved
loop-node_box-preserved c = λ names keeps calls.
    one-more (svg_box names c.args.width) c.args.boxes.now c.loop-node_box.node_box-index c.node_box-item.result c.args.body.now.items
    c.loop-node_box.body.items c.push_box.new.body.items (omega arith) (sym c.node_box-item.is)
    (c.loop-node_box.invariant names keeps calls) (c.in_ok-push_box.ensures names keeps calls)
