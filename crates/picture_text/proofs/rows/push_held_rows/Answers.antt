use Rattle.std.proofs.Common.{◌<◌, arith, length}
use Rattle.picture_text.specs.TextPictures.{buffer_row}
use Rattle.event_texts.proofs.Loops.{one-read}
use Rattle.picture_text.proofs.rows.push_held_rows.Goals as goal

-- one more comes last
pub loop-buffer-preserved : goal.loop-buffer-preserved
loop-buffer-preserved c = λ names keeps calls.
    let within : c.loop-buffer.buffer-index < length c.deref-buffer-items.result.now = omega arith in
    let all = c.deref-buffer-items.ensures.value in
    one-read (buffer_row c.args.event_writer.now.session.core names c.args.clients.now.items c.args.width c.args.tree.now.strong.items)
    c.args.tree.now.held.items c.loop-buffer.buffer-index _ c.args.text.now.items c.loop-buffer.text.items
    c.push_buffer_row.new.text.items (rw all at within) (c.loop-buffer.invariant names keeps calls)
    (rw all at (c.in_ok-push_buffer_row.ensures names keeps calls))
