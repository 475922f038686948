-- Which unit gets its buffers once it is ready, as the table tells. No public clause of `alloc_event` cites this module.
use Rattle.std.specs.Prelude.{Bool, true, false, ◌&&◌, not}
use Rattle.std.specs.Option.{option_map_or}
use Rattle.sm_names.specs.declared.keys.NodeKey.{NodeKey}
use Rattle.node_table.specs.Table.{Table, node_at, parent_at}
use Rattle.forest_store.specs.declared.node.Node.{Node}

-- there is a node with this key, and its unit has its buffers
abbrev pub has_buffers_at : Table Node → NodeKey → Bool
has_buffers_at t key = option_map_or (λ (n : Node). n.allocated) (node_at t key) false

-- the unit with this head has no buffers, and the one above it has them, if there is one
abbrev pub is_due_at : Table Node → NodeKey → Bool
is_due_at t head = not (has_buffers_at t head) && option_map_or (has_buffers_at t) (parent_at t head) true
