use Rattle.std.proofs.Common.{arith}
use Rattle.picture_text.specs.TextPictures.{fired_line}
use Rattle.event_texts.proofs.Loops.{one-read}
use Rattle.picture_text.proofs.picture.push_firings.Goals as goal

-- one more comes last
pub loop-firing-preserved : goal.loop-firing-preserved
loop-firing-preserved c = λ names keeps.
    one-read (fired_line names) c.args.fired.now c.loop-firing.firing-index _ c.args.text.now.items c.loop-firing.text.items
    c.push_fired_line.new.text.items (omega arith) (c.loop-firing.invariant names keeps) (c.in_ok-push_fired_line.ensures names keeps)
