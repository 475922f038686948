use Rattle.picture_model.proofs.Common.{fold, take, trace_in, ◌≡◌}
use Rattle.picture_model.specs.Travels.{climbed}
use Rattle.picture_model.proofs.failure_view.trace_up.Given as goal

-- those so far
abbrev pub invariant-loop-node : goal.invariant-loop-node
invariant-loop-node l = trace_in l.trail ≡ fold climbed (trace_in l.fn.trail) (take l.node-index l.below)
