-- Sets of keys of nodes.
use Rattle.std.specs.Prelude.{Bool, false, ◌||◌, ◌&&◌, not, is_none, if◌then◌else◌, List, [], ◌∷◌}
use Rattle.std.specs.Option.{option_map_or}
use Rattle.std.specs.BTreeSet.{contains}
use Rattle.sm_names.specs.contracts.keys.NodeKeyOrd.TheImpl as key_order
use Rattle.sm_names.specs.declared.keys.NodeKey.{NodeKey}
use Rattle.sm_names.specs.Sameness.{same_key}
use Rattle.forest_store.specs.declared.node.Node.{Node}
use Rattle.forest_store.specs.Questions.{is_live_node}
use Rattle.forced_marks.specs.declared.key_sets.KeySet.{KeySet}

-- the key is one of the set's
abbrev pub has : KeySet → NodeKey → Bool
has set key = contains (key_order.ghosts).cmp set.keys key

-- the node is the top one, or its parent is one of these
abbrev pub joins : (NodeKey → Bool) → NodeKey → Node → Bool
joins under top n = same_key top n.key || option_map_or under n.parent false

-- the keys at which climbs stand behind a node: those at which they stood; and its own and its parent's, if it is live or one stood at it
abbrev pub climbed_past : Node → (NodeKey → Bool) → NodeKey → Bool
climbed_past n stood key =
    let own : Bool = same_key n.key key || (option_map_or (λ parent. same_key parent key) n.parent false || stood key) in
    if is_live_node n || stood n.key then own else stood key

-- the keys that climbs come to, from those at which they stand and from each live node of these, the newest first, up to the oldest
abbrev pub climbs_into : List Node → (NodeKey → Bool) → NodeKey → Bool
climbs_into [] stood key = stood key
climbs_into (n ∷ older) stood key = climbs_into older (climbed_past n stood) key

-- the node is a root or attached, not gone, and not one of these, at or below which a node is live
abbrev pub is_deserted_by : (NodeKey → Bool) → Node → Bool
is_deserted_by busy n = (is_none n.parent || n.attached) && (not n.gone && not (busy n.key))

-- the node is attached and waits for buffers: its parent is one of these, which have them, and it heads none of those units that wait
-- for constraints
abbrev pub is_next_by : (NodeKey → Bool) → (NodeKey → Bool) → Node → Bool
is_next_by allocated waiting n =
    n.attached && (not n.gone && (not n.allocated && (option_map_or allocated n.parent false && not (waiting n.key))))

-- the node is gone, if it is one of these
abbrev pub left_by : (NodeKey → Bool) → Node → Node
left_by taken n = record n { gone = taken n.key || n.gone }
