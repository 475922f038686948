use Rattle.forest_store.proofs.Common.{◌≡◌, take, all_keys, nodes_with, rows_of}
use Rattle.forest_store.proofs.lookup.kept_nodes.Given as goal

-- so far the nodes of these entries
abbrev pub invariant-loop-entry : goal.invariant-loop-entry
invariant-loop-entry l = l.nodes.items ≡ nodes_with l.table (all_keys (rows_of (take l.entry-index l.entries)))
