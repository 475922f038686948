use Rattle.std.proofs.Common.{take}
use Rattle.picture_model.specs.Kin.{FindsChildren}
use Rattle.picture_model.proofs.tree_order.children_by_key.Given as goal

-- those among the nodes so far
abbrev pub invariant-loop-node : goal.invariant-loop-node
invariant-loop-node l = FindsChildren l.rows (take l.node-index l.nodes.items)
