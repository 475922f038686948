-- What a history says of the fates of nodes.
use Rattle.std.specs.Prelude.{if◌then◌else◌, Option, Some, None}
use Rattle.sm_names.specs.declared.keys.NodeKey.{NodeKey}
use Rattle.sm_names.specs.Births.{births, was_born}
use Rattle.sm_names.specs.Losses.{allocated, fault, gone, released}
use Rattle.sm_names.specs.Marks.{Timeline}
use Rattle.explore_model.specs.declared.outcome.Fate.{Fate}
use Rattle.explore_model.specs.declared.outcome.StepPlace.{StepPlace}
use Rattle.actor_plays.specs.Endings.{fate_gone, fate_there}

-- what became of a node, where nodes were made by these steps: one that is gone failed by its fault, or ended if it has none; one
-- that was born and is not gone was released, or is live
abbrev pub fate_after : (NodeKey → Option StepPlace) → Timeline → NodeKey → Option Fate
fate_after maker marks key =
    let left : Fate = fate_there (released marks key) (allocated marks key) in
    let here : Option Fate = if was_born (births marks) key then Some left else None in
    if gone marks key then Some (fate_gone maker (fault marks key)) else here
