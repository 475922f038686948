-- A collection of which a handle was dropped.
use Rattle.std.specs.Prelude.{Bool, false, ◌||◌, ◌&&◌, not, List, slice_get}
use Rattle.std.specs.List.{list_all}
use Rattle.std.specs.Option.{option_map_or}
use Rattle.sm_names.specs.declared.keys.BufferName.{BufferName}
use Rattle.sm_names.specs.declared.keys.NodeKey.{NodeKey}
use Rattle.sm_names.specs.Sameness.{same_buffer}
use Rattle.sm_names.specs.declared.keys.HeldBuffer.{HeldBuffer}
use Rattle.node_table.specs.Table.{Table, node_at}
use Rattle.forest_store.specs.declared.node.Node.{Node}
use Rattle.forest_store.specs.Forest.{Collection}
use Rattle.forest_store.specs.Questions.{is_root_left}
use Rattle.forest_store.specs.Scenes.{is_out}
use Rattle.forest_store.specs.Settling.{Handles, is_home_in}

-- no buffer of the collection but this one is home
abbrev pub are_others_out : Handles → BufferName → Collection → Bool
are_others_out handles buffer c = list_all (λ (h : HeldBuffer). same_buffer h.buffer buffer || not (is_home_in handles c h.buffer)) c.held

-- the same of its buffers as they are kept
abbrev pub are_rest_out : Handles → BufferName → Bool → List HeldBuffer → Bool
are_rest_out handles buffer strong_live held =
    list_all (λ (h : HeldBuffer). same_buffer h.buffer buffer || is_out handles strong_live h) held

-- the key has a node, a root that is not gone, and allocated
abbrev pub is_given_root : Table Node → NodeKey → Bool
is_given_root t key = option_map_or (λ (n : Node). is_root_left n && n.allocated) (node_at t key) false

-- so has the first of these
abbrev pub has_given_root : Table Node → List NodeKey → Bool
has_given_root t keys = option_map_or (is_given_root t) (slice_get keys 0) false
