-- The logical allocation of a pending attached unit. No public clause of `alloc_event` cites this module.
use Rattle.std.specs.Prelude.{◌≢◌, ◌↔◌, Bool, ◌&&◌, ◌==◌, List, AllPairs, Contains, Option}
use Rattle.std.specs.Option.{option_and_then}
use Rattle.sm_names.specs.declared.keys.NodeKey.{NodeKey}
use Rattle.sm_names.specs.Demands.{Demand}
use Rattle.node_table.specs.Table.{Table, node_at, parent_at}
use Rattle.failure_domains.specs.Falls.{Within, stopped_at}
use Rattle.forest_store.specs.declared.node.Node.{Node}
use Rattle.forest_store.specs.declared.unit_counts.Unit.{Unit}
use Rattle.forest_store.specs.Counts.{unit_at}
use Rattle.forest_steps.specs.InTurn.{asked_in}
use Rattle.forest_store.specs.UnitAllocation.{has_turn_at}

-- the unit with this head is attached, waits for no node by the counts, and has no buffers, while the one above it has them
abbrev pub is_next_there : Table Node → List Unit → NodeKey → Bool
is_next_there t us head = has_turn_at t head && (unit_at us head.slot).unready == 0

-- the keys are those of what lies at and below this head, and not below a head right below
pub record IsUnitListed (t : Table Node) (head : NodeKey) (keys : List NodeKey) : Type 0 where
  pub within : (key : NodeKey) → Contains keys key ↔ Within (parent_at t) (stopped_at (λ (n : Node). n.attached) t head) head key
  pub once : AllPairs (λ (a b : NodeKey). a ≢ b) keys

-- what the node with this key asks for, if it is of the unit with this head and not gone
abbrev pub asked_there : Table Node → NodeKey → NodeKey → Option Demand
asked_there t head at = option_and_then (asked_in head) (node_at t at)
