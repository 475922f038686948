-- Nodes that stand by birth, and units that were allocated. No public clause of `alloc_event` cites this module.
use Rattle.std.specs.Prelude.{◌≡◌, ℕ, ◌<◌, true, false, ◌||◌, List, Some, None}
use Rattle.std.specs.List.{list_any, slice_get}
use Rattle.sm_names.specs.declared.keys.NodeKey.{NodeKey}
use Rattle.sm_names.specs.Sameness.{same_key}
use Rattle.forest_store.specs.declared.node.Node.{Node}

-- ---- the nodes by birth

-- the node is below one that stands before it and is not gone, and of its unit unless it is attached
pub record IsHanging (nodes : List Node) (n : Node) (at : ℕ) : Type 0 where
  pub place : ℕ
  pub above : Node
  pub first : place < at
  pub found : slice_get nodes place ≡ Some above
  pub parent : n.parent ≡ Some above.key
  pub here : above.gone ≡ false
  pub unit : (n.attached || same_key n.head above.head) ≡ true

-- the node at this place is a root, or hangs so
pub data IsPlaced (nodes : List Node) (n : Node) (at : ℕ) : Type 0 where
  Roots : n.parent ≡ None → IsPlaced nodes n at
  Hangs : IsHanging nodes n at → IsPlaced nodes n at

-- each node that is not gone is placed so
abbrev pub AreGrown : List Node → Type 0
AreGrown nodes = (at : ℕ) (n : Node) → slice_get nodes at ≡ Some n → n.gone ≡ false → IsPlaced nodes n at

-- ---- the nodes as they stand

-- the node, once the units with these heads are allocated
abbrev pub given_all : List NodeKey → Node → Node
given_all heads n = record n { allocated = list_any (same_key n.head) heads || n.allocated }
