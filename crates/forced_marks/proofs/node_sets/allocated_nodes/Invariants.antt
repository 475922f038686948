use Rattle.forced_marks.proofs.Common.{NodeKey, has, list_any, take, ◌≡◌}
use Rattle.forest_store.specs.Questions.{is_allocated_node}
use Rattle.forced_marks.proofs.node_sets.allocated_nodes.Given as goal

-- those among the nodes so far
abbrev pub invariant-loop-node : goal.invariant-loop-node
invariant-loop-node l = (key : NodeKey) → has l.keys key ≡ list_any (is_allocated_node key) (take l.node-index l.nodes)
