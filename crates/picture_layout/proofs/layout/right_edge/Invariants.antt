use Rattle.std.proofs.Common.{◌≡◌, max, take}
use Rattle.std.specs.List.{fold}
use Rattle.picture_layout.specs.declared.layout.NodeBox.{NodeBox}
use Rattle.picture_layout.specs.Lengths.{capped_sum}
use Rattle.picture_layout.proofs.layout.right_edge.Given as goal

-- that of those so far
abbrev pub invariant-loop-node_box : goal.invariant-loop-node_box
invariant-loop-node_box l = l.right ≡ fold (λ x (s : NodeBox). max x (capped_sum s.corner.x l.width)) 0 (take l.node_box-index l.boxes)
