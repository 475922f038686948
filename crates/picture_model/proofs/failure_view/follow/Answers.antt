use Rattle.picture_model.proofs.Common.{arith, followed, sym, trace_in}
use Rattle.picture_model.proofs.Loops.{one-folded}
use Rattle.picture_model.proofs.failure_view.follow.Goals as goal

-- one more comes last
pub loop-moment-preserved : goal.loop-moment-preserved
loop-moment-preserved c = one-folded followed (trace_in c.args.trail.now) c.args.moments.now c.loop-moment.moment-index
    c.moment-item.result (trace_in c.loop-moment.trail) (trace_in c.follow_mark.new.trail) (omega arith) (sym c.moment-item.is)
    c.loop-moment.invariant c.in_ok-follow_mark.ensures
