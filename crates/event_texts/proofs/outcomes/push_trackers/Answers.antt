use Rattle.event_texts.proofs.Common.{arith, tracker_text}
use Rattle.event_texts.proofs.Loops.{one-read}
use Rattle.event_texts.proofs.outcomes.push_trackers.Goals as goal

-- one more comes last
pub loop-firing-preserved : goal.loop-firing-preserved
loop-firing-preserved c = λ names keeps.
    one-read (tracker_text names) c.args.fired.now c.loop-firing.firing-index _ c.args.text.now.items c.loop-firing.text.items
    c.push_fired.new.text.items (omega arith) (c.loop-firing.invariant names keeps) (c.in_ok-push_fired.ensures names keeps)
