-- Units one above another that nothing holds but the one below. No public clause of `alloc_event` cites this module.
use Rattle.std.specs.Prelude.{ℕ, zero, suc, Bool, ◌&&◌, ◌==◌, List, Option, is_some}
use Rattle.std.specs.Option.{option_and_then, option_map_or}
use Rattle.sm_names.specs.declared.keys.NodeKey.{NodeKey}
use Rattle.sm_names.specs.Words.{when}
use Rattle.node_table.specs.Table.{Table, node_at, parent_at}
use Rattle.forest_store.specs.declared.node.Node.{Node}
use Rattle.forest_store.specs.declared.unit_counts.Unit.{Unit}
use Rattle.forest_store.specs.Counts.{unit_at}

-- the unit that the node is of has its head, and nothing holds it but one unit right below
abbrev pub is_held_once : Table Node → List Unit → Node → Bool
is_held_once t us n = is_some (node_at t n.head) && ((unit_at us n.head.slot).live == 0 && (unit_at us n.head.slot).below == 1)

-- the head of the unit right above the one with this head, if nothing holds it but one unit right below
abbrev pub unit_over : Table Node → List Unit → NodeKey → Option NodeKey
unit_over t us head = option_and_then
    (λ p. option_and_then (λ (n : Node). when (is_held_once t us n) n.head) (node_at t p))
    (parent_at t head)

-- the head that this many steps up from unit to unit come to at most
abbrev pub climbed : ℕ → Table Node → List Unit → NodeKey → NodeKey
climbed zero t us head = head
climbed (suc n) t us head = option_map_or (climbed n t us) (unit_over t us head) head
