use Rattle.forest_store.proofs.Common.{◌≡◌, ◌++◌, take, nodes_with}
use Rattle.forest_store.proofs.lookup.add_kept.Given as goal

-- so far the nodes with these keys
abbrev pub invariant-loop-key : goal.invariant-loop-key
invariant-loop-key l = l.nodes.items ≡ l.initial.nodes.items ++ nodes_with l.table (take l.key-index l.keys)
