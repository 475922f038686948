use Rattle.forced_marks.proofs.Common.{NodeKey, has, is_below, take, ◌≡◌}
use Rattle.forced_marks.proofs.node_sets.nodes_under.Given as goal

-- so far the top node and those below it among the nodes so far
abbrev pub invariant-loop-node : goal.invariant-loop-node
invariant-loop-node l = (key : NodeKey) → has l.under key ≡ is_below (take l.node-index l.nodes) l.top key
