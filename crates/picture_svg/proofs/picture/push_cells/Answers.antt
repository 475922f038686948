use Rattle.picture_svg.proofs.Common.{arith, held_cell}
use Rattle.event_texts.proofs.Loops.{one-read}
use Rattle.picture_svg.proofs.picture.push_cells.Goals as goal

-- one more comes last
pub loop-buffer-preserved : goal.loop-buffer-preserved
loop-buffer-preserved c = λ names keeps.
    one-read (held_cell names c.args.cell c.args.y) c.args.held.now c.loop-buffer.buffer-index
    _ c.args.body.now.items c.loop-buffer.body.items
    c.push_cell.new.body.items (omega arith) (c.loop-buffer.invariant names keeps) (c.in_ok-push_cell.ensures names keeps)
