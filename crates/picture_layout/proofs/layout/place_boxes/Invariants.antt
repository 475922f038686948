use Rattle.std.proofs.Common.{◌≡◌, ◌++◌, List, length}
use Rattle.sm_names.specs.declared.keys.NodeKey.{NodeKey}
use Rattle.event_facts.specs.KeyMaps.{HasKeys}
use Rattle.picture_layout.specs.Layouts.{boxes_from}
use Rattle.picture_layout.proofs.layout.place_boxes.Given as goal

-- those so far, and those that are left, are all
abbrev pub invariant-nodes : goal.invariant-nodes
invariant-nodes l = (keys : List NodeKey) → HasKeys l.left keys →
    l.boxes.items ++ boxes_from l.start l.parents l.corners keys (length l.boxes.items) l.rest
    ≡ boxes_from l.start l.parents l.corners keys 0 l.initial.rest

abbrev pub decreases-nodes : goal.decreases-nodes
decreases-nodes l = length l.rest
