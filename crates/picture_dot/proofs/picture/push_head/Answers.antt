use Rattle.picture_dot.proofs.Common.{after, codes, on_ok_weaker}
use Rattle.picture_dot.specs.DotPictures.{graph_head}
use Rattle.picture_model.specs.BoxLines.{header_text}
use Rattle.picture_dot.proofs.picture.push_head.Goals as goal

-- the title, and what is set behind it
pub returns : goal.returns
unfolding graph_head
returns c = on_ok_weaker c.push_parts.result
    (λ put. after _ (codes "digraph sysmem {\n  graph [label=\"") _ _ _ c.in_ok-push.ensures.ok
    (after _ (header_text c.args.event c.args.line.now) _ _ _ c.in_ok-push_header.ensures
    (rw c.words_for_graph.ensures at (rw c.words_for_boxes.ensures at (rw c.words_for_links.ensures at put)))))
    c.push_parts.ensures
