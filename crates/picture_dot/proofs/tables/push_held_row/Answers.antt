use Rattle.picture_dot.proofs.Common.{after, cells_text, codes, held_row, last, on_ok_weaker}
use Rattle.event_texts.specs.KeeperTexts.{keepers_words}
use Rattle.picture_dot.proofs.tables.push_held_row.Goals as goal

-- one text behind the other
pub returns : goal.returns
unfolding held_row
returns c = on_ok_weaker c.push.result
    (λ put names keeps calls. after _ (cells_text names (codes "<td bgcolor=\"#FAF2CC\">") c.args.buffer) _ _ _
    (c.in_ok-push_cells.ensures names keeps)
    (after _ (keepers_words c.args.event_writer.now.session.core names c.args.clients.now.items c.args.strong.now c.args.buffer.buffer)
    _ _ _
    (c.in_ok-push_keepers.ensures names keeps calls)
    (last _ (codes "</td></tr>") _ put)))
    c.push.ensures.ok
