use Rattle.event_texts.proofs.Common.{arith, waiting_label}
use Rattle.event_texts.proofs.Loops.{one-read}
use Rattle.event_texts.proofs.summary.push_trackers.Goals as goal

-- one more comes last
pub loop-tracker-preserved : goal.loop-tracker-preserved
loop-tracker-preserved c = λ names keeps.
    one-read (waiting_label names) c.args.trackers.now c.loop-tracker.tracker-index _ c.args.text.now.items c.loop-tracker.text.items
    c.push_tracker.new.text.items (omega arith) (c.loop-tracker.invariant names keeps) (c.in_ok-push_tracker.ensures names keeps)
