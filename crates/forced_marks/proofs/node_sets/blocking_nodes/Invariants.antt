use Rattle.forced_marks.proofs.Common.{NodeKey, blocks_here, has, list_any, take, ◌≡◌}
use Rattle.forced_marks.proofs.node_sets.blocking_nodes.Given as goal

-- those among the nodes so far
abbrev pub invariant-loop-node : goal.invariant-loop-node
invariant-loop-node l = (key : NodeKey) → has l.keys key ≡ list_any (blocks_here key) (take l.node-index l.nodes)
