-- How a node table may hold the nodes of a collection, so that a failure in the table takes what a loss takes of them.
use Rattle.std.specs.Prelude.{◌≡◌, Bool, true, false, ◌||◌, ◌&&◌, ⊤, ◌↔◌, List, [], ◌∷◌, reverse, Some, Contains}
use Rattle.std.specs.List.{list_any, AllByRecursion}
use Rattle.std.specs.Option.{option_map_or}
use Rattle.sm_names.specs.declared.keys.NodeKey.{NodeKey}
use Rattle.sm_names.specs.Losses.{Reach}
use Rattle.node_table.specs.Table.{Table, node_at, parent_at}
use Rattle.failure_domains.specs.Falls.{blocked_at}
use Rattle.forest_store.specs.declared.change.Change.{Change}
use Rattle.forest_store.specs.declared.node.Node.{Node}
use Rattle.forest_store.specs.Decisions.{is_left_of}
use Rattle.forest_store.specs.Nodes.{is_of}

-- the node is gone, or a root, or its parent is among these and not gone
abbrev pub hangs_on : List Node → Node → Bool
hangs_on older n = n.gone || option_map_or (is_left_of older) n.parent true

-- each node hangs on those behind it; the newest stands first
abbrev pub are_rooted : List Node → Bool
are_rooted [] = true
are_rooted (n ∷ older) = hangs_on older n && are_rooted older

-- the node's failure does not go to its parent
abbrev pub is_blocking : Node → Bool
is_blocking n = n.attached || (n.dispensable && n.allocated)

-- the nodes of a collection, by birth, as a table has them: it has the parent of each that is not gone
pub record IsTied (t : Table Node) (nodes : List Node) : Type 0 where
  pub there : AllByRecursion (λ (n : Node). node_at t n.key ≡ Some n) nodes
  pub linked : AllByRecursion (λ (n : Node). n.gone ≡ false → parent_at t n.key ≡ n.parent) nodes
  pub rooted : are_rooted (reverse nodes) ≡ true

-- the keys that a failure of the origin takes of the table
abbrev pub IsFall : Table Node → NodeKey → List NodeKey → Type 0
IsFall t origin keys = (key : NodeKey) → Contains keys key ↔ Reach (parent_at t) (blocked_at is_blocking t) origin key

-- the key is new to the nodes, and a parent is one of them that is left; only a birth asks for this
abbrev pub FitsChange : Change → NodeKey → List Node → Type 0
FitsChange (Change.Birth parent attached client event) key nodes =
    (list_any (is_of key) nodes ≡ false) × (option_map_or (is_left_of nodes) parent true ≡ true)
FitsChange _ key nodes = ⊤
