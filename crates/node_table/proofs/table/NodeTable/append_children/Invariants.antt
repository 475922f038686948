use Rattle.node_table.proofs.Common.{Appends, IsForest, children_at, length, ◌+◌, ◌-◌, ◌≤◌}
use Rattle.std.proofs.Common.{vec_capacity}
use Rattle.node_table.proofs.table.NodeTable.append_children.Given as goal

-- the children before the next one were appended
abbrev pub invariant-children : goal.invariant-children
invariant-children g l = record {
  appends : Appends (children_at l.self l.fn.key) l.fn.keys.items l.keys.items l.at;
  forest : IsForest l.self;
  capacity : vec_capacity l.fn.keys ≤ vec_capacity l.keys;
}

-- how many are left
abbrev pub decreases-children : goal.decreases-children
decreases-children g l = length l.fn.keys.items + length (children_at l.self l.fn.key) - length l.keys.items
