-- What is reserved in a collection. No public clause of `alloc_event` cites this module.
use Rattle.std.specs.Prelude.{ℕ, if◌then◌else◌, List, None}
use Rattle.std.specs.List.{sum_by}
use Rattle.std.specs.Option.{option_map_or}
use Rattle.sm_names.specs.Demands.{Demand}
use Rattle.forest_store.specs.declared.node.Node.{Node}
use Rattle.forest_store.specs.Questions.{demands_of, has_buffers}

-- how many buffers the nodes camp on that are in allocated units and not gone
abbrev pub reserved_count : List Node → ℕ
reserved_count nodes = sum_by (λ (d : Demand). d.camping) (demands_of has_buffers nodes)

-- how many of them this node camps on
abbrev pub camped : Node → ℕ
camped n = option_map_or (λ (d : Demand). d.camping) (if has_buffers n then n.constraints else None) 0
