use Rattle.forced_marks.proofs.Common.{NodeKey, has, list_all, not, take, ◌≡◌}
use Rattle.forest_store.specs.Questions.{is_ready_node}
use Rattle.forced_marks.proofs.node_sets.waiting_heads.Given as goal

-- those of the nodes so far
abbrev pub invariant-loop-node : goal.invariant-loop-node
invariant-loop-node l = (key : NodeKey) → has l.keys key ≡ not (list_all (is_ready_node key) (take l.node-index l.nodes))
