use Rattle.std.proofs.Common.{◌≡◌, max, take}
use Rattle.std.specs.List.{fold}
use Rattle.picture_layout.specs.declared.layout.NodeBox.{NodeBox}
use Rattle.picture_layout.proofs.layout.lowest_row.Given as goal

-- that of those so far
abbrev pub invariant-loop-node_box : goal.invariant-loop-node_box
invariant-loop-node_box l = l.bottom ≡ fold (λ y (s : NodeBox). max y s.corner.y) l.start (take l.node_box-index l.boxes)
