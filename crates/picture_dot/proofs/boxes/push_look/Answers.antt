use Rattle.std.proofs.lemmas.Result.{on_ok_weaker}
use Rattle.picture_dot.specs.DotPictures.{look_text}
use Rattle.picture_dot.proofs.boxes.push_look.Goals as goal

-- the border and the colours are those of its class, and the border is thick if the node is one of these
pub returns : goal.returns
unfolding look_text
returns c = on_ok_weaker c.push_parts.result
    (λ put keys has. rw c.class_of-class.ensures at (rw
    c.border_of.ensures at (rw c.fill_color.ensures at (rw c.edge_color.ensures at (rw c.ink_color.ensures at
    (rw (c.width_of.ensures keys has) at put))))))
    c.push_parts.ensures
