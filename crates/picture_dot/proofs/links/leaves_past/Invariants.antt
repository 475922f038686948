use Rattle.std.proofs.Common.{◌≡◌, map, take}
use Rattle.std.specs.List.{filter}
use Rattle.forest_store.specs.declared.node.Node.{Node}
use Rattle.picture_model.specs.Kin.{AreParents}
use Rattle.picture_dot.specs.DotPictures.{is_leaf}
use Rattle.picture_dot.proofs.links.leaves_past.Given as goal

-- those among the nodes so far
abbrev pub invariant-loop-node : goal.invariant-loop-node
invariant-loop-node l = AreParents l.parents l.nodes.items →
    l.leaves.items ≡ map (λ (n : Node). n.event) (filter (is_leaf l.nodes.items) (take l.node-index l.nodes.items))
