use Rattle.picture_dot.proofs.Common.{after, cells_text, codes, last, on_ok_weaker}
use Rattle.event_texts.specs.FactTexts.{buffer_name}
use Rattle.picture_model.specs.Features.{pages_text}
use Rattle.picture_dot.proofs.tables.push_cells.Goals as goal

-- one text behind the other
pub returns : goal.returns
unfolding cells_text
returns c = on_ok_weaker c.push-5.result
    (λ put names keeps. after _ (codes "<tr>") _ _ _ c.in_ok-push.ensures.ok
    (after _ c.args.begin.now _ _ _ c.in_ok-push-2.ensures.ok
    (after _ (buffer_name names c.args.buffer.buffer) _ _ _ (c.in_ok-push_buffer_name.ensures names keeps)
    (after _ (codes "</td>") _ _ _ c.in_ok-push-3.ensures.ok
    (after _ c.args.begin.now _ _ _ c.in_ok-push-4.ensures.ok
    (after _ (pages_text c.args.buffer.pages) _ _ _ c.in_ok-push_pages.ensures
    (last _ (codes "</td><td align=\"left\">") _ put)))))))
    c.push-5.ensures.ok
