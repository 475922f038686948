-- Which nodes fell, under other names.
use Rattle.std.specs.Prelude.{◌≡◌, List, Option}
use Rattle.std.specs.Option.{option_map}
use Rattle.sm_names.specs.declared.keys.NodeKey.{NodeKey}
use Rattle.sm_names.specs.declared.outcomes.Fault.{Fault}
use Rattle.actor_plays.specs.declared.falls.GoneNode.{GoneNode}
use Rattle.actor_plays.specs.Fates.{fault_fallen}
use Rattle.alike_cores.specs.Renamed.{fault_renamed}

-- why a node fell, with the new key of the node at which its failure began
abbrev pub fall_renamed : (NodeKey → NodeKey) → Option Fault → Option Fault
fall_renamed to fault = option_map (fault_renamed to) fault

-- a node that is gone, under its new key, with the new key of the node at which its failure began
abbrev pub gone_renamed : (NodeKey → NodeKey) → GoneNode → GoneNode
gone_renamed to g = record { key = to g.key; fault = fall_renamed to g.fault }

-- the nodes fell alike, under other names
abbrev pub FellAlike : (NodeKey → NodeKey) → List GoneNode → List GoneNode → Type 0
FellAlike to falls later = (key : NodeKey) → fault_fallen later (to key) ≡ option_map (fall_renamed to) (fault_fallen falls key)
