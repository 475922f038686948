use Rattle.event_texts.proofs.Common.{arith, held_text}
use Rattle.event_texts.proofs.Loops.{one-read}
use Rattle.event_texts.proofs.allocations.push_each_held.Goals as goal

-- one more comes last
pub loop-buffer-preserved : goal.loop-buffer-preserved
loop-buffer-preserved c = λ names keeps.
    one-read (held_text names) c.args.held.now c.loop-buffer.buffer-index _ c.args.text.now.items c.loop-buffer.text.items
    c.push_held.new.text.items (omega arith) (c.loop-buffer.invariant names keeps) (c.in_ok-push_held.ensures names keeps)
