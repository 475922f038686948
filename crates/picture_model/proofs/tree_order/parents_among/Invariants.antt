use Rattle.std.proofs.Common.{take}
use Rattle.picture_model.specs.Kin.{AreParents}
use Rattle.picture_model.proofs.tree_order.parents_among.Given as goal

-- those of the nodes so far
abbrev pub invariant-loop-node : goal.invariant-loop-node
invariant-loop-node l = AreParents l.set (take l.node-index l.nodes.items)
