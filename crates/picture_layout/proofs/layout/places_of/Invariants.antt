use Rattle.std.proofs.Common.{take}
use Rattle.picture_layout.specs.Layouts.{FindsPlaces}
use Rattle.picture_layout.proofs.layout.places_of.Given as goal

-- those so far
abbrev pub invariant-loop-at : goal.invariant-loop-at
invariant-loop-at l = FindsPlaces l.places (take l.at l.nodes.items)
