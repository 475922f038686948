use Rattle.core_likeness.proofs.Common.{map, new_id, new_key, node_renamed, node_undated, take, ◌≡◌}
use Rattle.core_likeness.proofs.nodes.are_new_nodes.Given as goal

-- so far the nodes are the same
abbrev pub invariant-loop-at : goal.invariant-loop-at
invariant-loop-at l = map node_undated (take l.at l.other) ≡ map (node_renamed (new_key l.names) (new_id l.names)) (take l.at l.one)
