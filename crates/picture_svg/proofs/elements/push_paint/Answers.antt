use Rattle.picture_svg.proofs.Common.{after, attribute, codes, last, on_ok_weaker}
use Rattle.picture_svg.specs.Elements.{paint_text, rounded_text}
use Rattle.picture_svg.proofs.elements.push_paint.Goals as goal

-- one attribute behind the other
pub returns : goal.returns
unfolding paint_text
returns c =
    let r = c.args.rect.now in
    on_ok_weaker c.push.result
    (λ put. after _ (rounded_text r.rounded) _ _ _ c.in_ok-push_rounded.ensures
    (after _ (attribute (codes "fill") r.fill.now) _ _ _ c.in_ok-push_word.ensures
    (after _ (attribute (codes "stroke") r.stroke.now) _ _ _ c.in_ok-push_word-2.ensures
    (after _ (attribute (codes "stroke-width") r.stroke_width.now) _ _ _ c.in_ok-push_word-3.ensures
    (after _ (attribute (codes "stroke-dasharray") r.dashes.now) _ _ _ c.in_ok-push_word-4.ensures
    (last _ (codes "/>\n") _ put))))))
    c.push.ensures.ok
