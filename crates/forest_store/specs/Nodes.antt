-- The nodes of a collection as they are kept, and what one mark or effect makes of them.
use Rattle.std.specs.Prelude.{ℕ, ◌+◌, Bool, true, false, ◌||◌, ◌&&◌, not, if◌then◌else◌, List, [], ◌∷◌, map, reverse, Option, Some, None}
use Rattle.std.specs.List.{find, filter}
use Rattle.std.specs.Option.{option_map_or}
use Rattle.sm_names.specs.declared.keys.NodeKey.{NodeKey}
use Rattle.sm_names.specs.declared.outcomes.Fault.{Fault}
use Rattle.sm_names.specs.Changes.{highest}
use Rattle.sm_names.specs.Members.{Member, is_under}
use Rattle.sm_names.specs.Sameness.{same_key}
use Rattle.forest_store.specs.declared.change.Effect.{Effect}
use Rattle.forest_store.specs.declared.node.End.{End}
use Rattle.forest_store.specs.declared.node.Node.{Node}

-- the node has this key
abbrev pub is_of : NodeKey → Node → Bool
is_of key n = same_key n.key key

-- the node with this key
abbrev pub node_of : List Node → NodeKey → Option Node
node_of nodes key = find (is_of key) nodes

-- the node's parent, its parent, and so on, as far as they are among these, the newest first
abbrev pub above_among : List Node → NodeKey → List NodeKey
above_among [] key = []
above_among (n ∷ older) key =
    let up : List NodeKey = option_map_or (λ parent. parent ∷ above_among older parent) n.parent [] in
    let on : List NodeKey = above_among older key in
    if same_key n.key key then up else on

-- what the forced steps read of the node, which is among these, by birth
abbrev pub member_of : List Node → Node → Member
member_of nodes n = record {
  key = n.key;
  parent = n.parent;
  above = above_among (reverse nodes) n.key;
  attached = n.attached;
  head = n.head;
  allocated = n.allocated;
  gone = n.gone;
  released = n.released;
  dispensable = n.dispensable;
  weak = n.weak;
  constraints = n.constraints;
}

-- the nodes that are not gone, as the forced steps read them
abbrev pub members_of : List Node → List Member
members_of nodes = map (member_of nodes) (filter (λ n. not n.gone) nodes)

-- ---- what a mark makes of a node

-- the node fails, if it is taken and is not gone yet
abbrev pub lost : (Node → Bool) → Fault → Node → Node
lost taken fault n = record n {
  gone = taken n || n.gone;
  fault = if taken n && not n.gone then Some fault else n.fault;
}

-- a loss at the key takes the node: it climbs to the highest node over links that don't block, and takes all below that node
abbrev pub is_taken : List Node → NodeKey → Node → Bool
is_taken nodes key n = option_map_or
    (λ (origin : Node). is_under (highest (members_of nodes) (member_of nodes origin)) (member_of nodes n))
    (node_of nodes key) false

-- the nodes once the one with this key is lost
abbrev pub after_loss : Fault → List Node → List Node
after_loss fault nodes = map (lost (is_taken nodes fault.origin) fault) nodes

-- the node, once the unit with this head is allocated
abbrev pub given_buffers : NodeKey → Node → Node
given_buffers head n = record n { allocated = same_key head n.head || n.allocated }

-- the nodes, once the unit with this head is allocated
abbrev pub after_allocation : NodeKey → List Node → List Node
after_allocation head nodes = map (given_buffers head) nodes

-- the node ends without a fault, if it is the top one or below it
abbrev pub ended : List Node → NodeKey → Node → Node
ended nodes top n = record n { gone = is_under top (member_of nodes n) || n.gone }

-- the nodes, once the top one and all below it left
abbrev pub after_end : NodeKey → List Node → List Node
after_end top nodes = map (ended nodes top) nodes

-- ---- what an effect makes of a node

-- the effect on the node with this key, and on no other
abbrev pub affected : NodeKey → Effect → Node → Node
affected key Effect.Bound n = record n { bound = same_key key n.key || n.bound }
affected key Effect.Dispensable n = record n { dispensable = same_key key n.key || n.dispensable }
affected key Effect.Weak n =
    record n { weak = same_key key n.key || n.weak; weak_ok = same_key key n.key || n.weak_ok }
affected key (Effect.WeakOk children) n = record n {
  weak_ok = same_key key n.key || n.weak_ok;
  covers = (children && same_key key n.key) || n.covers;
}
affected key (Effect.Constrained demand) n =
    record n { constraints = if same_key key n.key then Some demand else n.constraints }
affected key Effect.Taken n = record n { took = same_key key n.key || n.took }
affected key Effect.Released n = record n { released = same_key key n.key || n.released }
affected key Effect.Tracked n = record n { trackers = if same_key key n.key then n.trackers + 1 else n.trackers }

-- the nodes, once the effect was made
abbrev pub after_effect : NodeKey → Effect → List Node → List Node
after_effect key effect nodes = map (affected key effect) nodes

-- the node with the end there
abbrev pub with_end : NodeKey → End → Node → Node
with_end key end n = record n { end = if same_key key n.key then end else n.end }

-- the end is spent
abbrev pub is_spent : End → Bool
is_spent End.Spent = true
is_spent _ = false

-- the node is gone and its end spent, so that it may be forgotten
abbrev pub is_unkept : Node → Bool
is_unkept n = n.gone && is_spent n.end

-- ---- births

-- a root that is new
abbrev pub new_root : NodeKey → ℕ → ℕ → ℕ → Node
new_root key collection event client = record {
  key = key;
  parent = None;
  attached = false;
  collection = collection;
  event = event;
  head = key;
  allocated = false;
  gone = false;
  fault = None;
  released = false;
  dispensable = false;
  weak = false;
  weak_ok = false;
  covers = false;
  constraints = None;
  took = false;
  trackers = 0;
  bound = false;
  end = End.Held client;
}

-- a child of the node that is new
abbrev pub new_child : Bool → NodeKey → ℕ → ℕ → Node → Node
new_child attached key event client above = record {
  key = key;
  parent = Some above.key;
  attached = attached;
  collection = above.collection;
  event = event;
  head = if attached then key else above.head;
  allocated = not attached && above.allocated;
  gone = false;
  fault = None;
  released = false;
  dispensable = false;
  weak = above.weak;
  weak_ok = above.covers;
  covers = above.covers;
  constraints = None;
  took = false;
  trackers = 0;
  bound = false;
  end = End.Held client;
}
