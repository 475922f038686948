use Rattle.picture_dot.proofs.Common.{after, box_text, codes, decimal, flat_map, last, on_ok_weaker}
use Rattle.picture_dot.specs.DotPictures.{buffers_table, cluster_text}
use Rattle.picture_dot.proofs.picture.push_cluster.Goals as goal

-- one text behind the other
pub returns : goal.returns
unfolding cluster_text
returns c = on_ok_weaker c.push-3.result
    (λ put names keeps calls. after _ (codes "  subgraph cluster_") _ _ _ c.in_ok-push.ensures.ok
    (after _ (decimal c.args.tree.now.id) _ _ _ c.in_ok-push_number.ensures.ok
    (after _ (codes " {\n    color=\"#BBBBBB\"; label=\"\";\n") _ _ _ c.in_ok-push-2.ensures.ok
    (after _ (flat_map (box_text names c.args.tree.now.left.items) c.args.tree.now.nodes.items) _ _ _
    (rw c.deref.ensures.value at (rw c.deref-2.ensures.value at (c.in_ok-push_boxes.ensures names keeps calls)))
    (after _ (buffers_table c.args.event_writer.now.session.core names c.args.clients.now.items c.args.tree.now) _ _ _
    (c.in_ok-push_table_of.ensures names keeps calls)
    (last _ (codes "  }\n") _ put))))))
    c.push-3.ensures.ok
