use Rattle.std.proofs.lemmas.Result.{on_ok_weaker}
use Rattle.picture_dot.specs.DotPictures.{sign_cell}
use Rattle.picture_dot.proofs.legend.push_cell.Goals as goal

-- the border, the colours and the sign are those of the class
pub returns : goal.returns
unfolding sign_cell
returns c = on_ok_weaker c.push_parts.result
    (λ put. rw c.style_of.ensures at (rw c.fill_color.ensures at (rw c.edge_color.ensures at (rw c.ink_color.ensures at
    (rw c.class_sign.ensures at put)))))
    c.push_parts.ensures
