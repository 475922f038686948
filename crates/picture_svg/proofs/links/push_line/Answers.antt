use Rattle.picture_svg.proofs.Common.{after, attribute, codes, last, on_ok_weaker}
use Rattle.picture_svg.specs.Links.{line_dashes, line_start, svg_line}
use Rattle.picture_svg.proofs.links.push_line.Goals as goal

-- the colour and the width, and then the dashes
pub returns : goal.returns
unfolding svg_line
returns c = on_ok_weaker c.push_word.result
    (λ put. after _ (line_start c.args.way) _ _ _ c.in_ok-push_stroke.ensures
    (last _ (attribute (codes "stroke-dasharray") (line_dashes c.args.link)) _ (rw c.dashes_of.ensures at put)))
    c.push_word.ensures
