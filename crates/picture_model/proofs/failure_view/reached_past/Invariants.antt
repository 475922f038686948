use Rattle.picture_model.proofs.Common.{filter, has, is_past, take, ◌≡◌}
use Rattle.picture_model.proofs.failure_view.reached_past.Given as goal

-- so far those among these
abbrev pub invariant-loop-node : goal.invariant-loop-node
invariant-loop-node l = l.reached.items ≡ filter (is_past (has l.passed)) (take l.node-index l.all.items)
