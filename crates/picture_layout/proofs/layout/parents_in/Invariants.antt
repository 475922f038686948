use Rattle.std.proofs.Common.{◌≡◌, List, map, take}
use Rattle.forest_store.specs.declared.node.Node.{Node}
use Rattle.picture_layout.specs.Layouts.{FindsPlaces, place_above}
use Rattle.picture_layout.proofs.layout.parents_in.Given as goal

-- those so far
abbrev pub invariant-loop-node : goal.invariant-loop-node
invariant-loop-node l = (all : List Node) → FindsPlaces l.places all →
    l.parents.items ≡ map (place_above all) (take l.node-index l.nodes.items)
