use Rattle.forest_store.proofs.Common.{◌≡◌, ◌++◌, take, filter, nodes_with, is_live_node}
use Rattle.forest_store.proofs.lookup.add_live.Given as goal

-- so far the live nodes with these keys
abbrev pub invariant-loop-key : goal.invariant-loop-key
invariant-loop-key l = l.nodes.items ≡ l.initial.nodes.items ++ filter is_live_node (nodes_with l.table (take l.key-index l.keys))
