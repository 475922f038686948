use Rattle.forced_marks.proofs.Common.{drop, has, left_by, map, take, ◌++◌, ◌≡◌}
use Rattle.forced_marks.proofs.subtree_end.end_all.Given as goal

-- those so far left that are taken
abbrev pub invariant-loop-node : goal.invariant-loop-node
invariant-loop-node l = l.nodes ≡ map (left_by (has l.taken)) (take l.node-index l.fn.nodes) ++ drop l.node-index l.fn.nodes
