use Rattle.forest_store.proofs.Common.{◌≡◌, map, take, filter, Node, all_keys, nodes_with, rows_of, is_live_node}
use Rattle.forest_store.proofs.lookup.live_by_birth.Given as goal

-- so far the live nodes of these entries
abbrev pub invariant-loop-entry : goal.invariant-loop-entry
invariant-loop-entry l = l.nodes.items ≡ filter is_live_node (nodes_with l.table (all_keys (rows_of (take l.entry-index l.entries))))

-- so far the keys of these nodes
abbrev pub invariant-loop-node : goal.invariant-loop-node
invariant-loop-node l = l.keys.items ≡ map (λ (n : Node). n.key) (take l.node-index l.node-items)
