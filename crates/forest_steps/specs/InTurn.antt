-- Where nodes stand, and what those of a unit ask for. No public clause of `alloc_event` cites this module.
use Rattle.std.specs.Prelude.{◌≡◌, ℕ, if◌then◌else◌, List, Option, Some, None, option_map}
use Rattle.std.specs.List.{slice_get}
use Rattle.sm_names.specs.declared.keys.NodeKey.{NodeKey}
use Rattle.sm_names.specs.Demands.{Demand}
use Rattle.forest_store.specs.declared.node.Node.{Node}
use Rattle.forest_store.specs.Questions.{is_in_unit}

-- the node here has this key
abbrev pub IsKeyAt : List Node → NodeKey → ℕ → Type 0
IsKeyAt nodes key at = option_map (λ (n : Node). n.key) (slice_get nodes at) ≡ Some key

-- ---- what a unit asks for

-- what the node asks for, if it is in the unit with this head
abbrev pub asked_in : NodeKey → Node → Option Demand
asked_in head n = if is_in_unit head n then n.constraints else None
