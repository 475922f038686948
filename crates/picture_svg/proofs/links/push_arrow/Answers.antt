use Rattle.picture_svg.proofs.Common.{after, capped_sum, codes, last, on_ok_weaker}
use Rattle.picture_svg.specs.Elements.{circle_text}
use Rattle.picture_svg.specs.Links.{svg_arrow, middle_row}
use Rattle.picture_svg.proofs.links.push_arrow.Goals as goal

-- the arrow, and the number
pub returns : goal.returns
unfolding svg_arrow
returns c =
    let row = capped_sum (middle_row c.args.to.y) 13 in
    on_ok_weaker c.push_step.result
    (λ put. after _ (codes " marker-end=\"url(#a)\"/>\n") _ _ _ c.in_ok-push.ensures.ok
    (last _ (circle_text c.args.to.x row (capped_sum row 4) c.args.step) _ (rw c.minus.ensures at (rw c.plus.ensures at put))))
    c.push_step.ensures
