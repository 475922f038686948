use Rattle.picture_dot.proofs.Common.{after, codes, last, on_ok_weaker}
use Rattle.picture_model.specs.BoxLines.{kind_words, state_words}
use Rattle.picture_model.specs.Features.{place_text}
use Rattle.picture_dot.specs.DotPictures.{asked_line, box_lines}
use Rattle.picture_dot.proofs.boxes.push_lines.Goals as goal

-- one line behind the other
pub returns : goal.returns
unfolding box_lines
returns c = on_ok_weaker c.push_place.result
    (λ put names keeps calls. after _ (codes "<br/>") _ _ _ c.in_ok-push.ensures.ok
    (after _ (state_words names c.args.node.now) _ _ _ (c.in_ok-push_state_line.ensures names keeps)
    (after _ (codes "<br/>") _ _ _ c.in_ok-push-2.ensures.ok
    (after _ (kind_words names c.args.node.now) _ _ _ (c.in_ok-push_kind_line.ensures names keeps calls)
    (after _ (asked_line c.args.node.now.constraints) _ _ _ c.in_ok-push_asked.ensures
    (after _ (codes "<br/>") _ _ _ c.in_ok-push-3.ensures.ok
    (last _ (place_text names c.args.node.now.end) _ (put names calls))))))))
    c.push_place.ensures
