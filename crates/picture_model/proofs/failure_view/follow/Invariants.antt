use Rattle.picture_model.proofs.Common.{fold, followed, take, trace_in, ◌≡◌}
use Rattle.picture_model.proofs.failure_view.follow.Given as goal

-- those so far
abbrev pub invariant-loop-moment : goal.invariant-loop-moment
invariant-loop-moment l = trace_in l.trail ≡ fold followed (trace_in l.fn.trail) (take l.moment-index l.moments)
