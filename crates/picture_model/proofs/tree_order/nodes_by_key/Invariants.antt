use Rattle.picture_model.proofs.Common.{FindsNodes, take}
use Rattle.picture_model.proofs.tree_order.nodes_by_key.Given as goal

-- those so far
abbrev pub invariant-loop-node : goal.invariant-loop-node
invariant-loop-node l = FindsNodes l.map (take l.node-index l.nodes.items)
