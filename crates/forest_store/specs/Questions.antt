-- Tests of kept nodes that ask what the forced steps ask of members.
use Rattle.std.specs.Prelude.{Bool, false, ◌||◌, ◌&&◌, not, if◌then◌else◌, List, reverse, ◌∷◌, None, is_none, is_some}
use Rattle.std.specs.List.{list_any, list_all, filter_map}
use Rattle.std.specs.Option.{option_map_or}
use Rattle.sm_names.specs.declared.keys.NodeKey.{NodeKey}
use Rattle.sm_names.specs.Demands.{Demand}
use Rattle.sm_names.specs.Sameness.{same_key}
use Rattle.forest_store.specs.declared.node.Node.{Node}
use Rattle.forest_store.specs.Nodes.{above_among}

-- the node with this key is the top one or below it
abbrev pub is_below : List Node → NodeKey → NodeKey → Bool
is_below nodes top key = list_any (same_key top) (key ∷ above_among (reverse nodes) key)

-- the node is live
abbrev pub is_live_node : Node → Bool
is_live_node n = not n.gone && not n.released

-- the node is a root that is not gone
abbrev pub is_root_left : Node → Bool
is_root_left n = is_none n.parent && not n.gone

-- the node has this key, is not gone, and its failure does not go to its parent
abbrev pub blocks_here : NodeKey → Node → Bool
blocks_here key n = not n.gone && (same_key n.key key && (n.attached || (n.dispensable && n.allocated)))

-- the node is live, and the top one or below it
abbrev pub lives_below : List Node → NodeKey → Node → Bool
lives_below nodes top n = is_live_node n && is_below nodes top n.key

-- the node is a root or attached, not gone, and no live node is at or below it
abbrev pub is_deserted_node : List Node → Node → Bool
is_deserted_node nodes n =
    (is_none n.parent || n.attached) && (not n.gone && not (list_any (lives_below nodes n.key) nodes))

-- the node is not in the unit with this head, or it waits for nothing more
abbrev pub is_ready_node : NodeKey → Node → Bool
is_ready_node head n = n.gone || (not (same_key n.head head) || (n.released || is_some n.constraints))

-- the node has this key, and its unit has its buffers
abbrev pub is_allocated_node : NodeKey → Node → Bool
is_allocated_node key n = not n.gone && (n.allocated && same_key n.key key)

-- the node is the next head of a unit to be allocated
abbrev pub is_next_node : List Node → Node → Bool
is_next_node nodes n =
    n.attached
    && (not n.gone && (not n.allocated && (option_map_or (λ parent. list_any (is_allocated_node parent) nodes) n.parent false
    && list_all (is_ready_node n.key) nodes)))

-- the node is in the unit with this head, and not gone
abbrev pub is_in_unit : NodeKey → Node → Bool
is_in_unit head n = not n.gone && same_key n.head head

-- the node is in an allocated unit, and not gone
abbrev pub has_buffers : Node → Bool
has_buffers n = not n.gone && n.allocated

-- what those nodes ask for that pass the test
abbrev pub demands_of : (Node → Bool) → List Node → List Demand
demands_of test nodes = filter_map (λ (n : Node). if test n then n.constraints else None) nodes
