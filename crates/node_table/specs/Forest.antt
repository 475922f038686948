-- How the nodes of a table hang together: links agree both ways, no child stands twice, and every climb ends.
use Rattle.std.specs.Prelude.{◌≡◌, ◌≢◌, ◌↔◌, ℕ, zero, suc, ◌+◌, ◌<◌, true, List, [], ◌∷◌, Option, Some, None, if◌then◌else◌, IsSome, Contains, AllPairs, length}
use Rattle.std.specs.Option.{option_map_or}
use Rattle.sm_names.specs.declared.keys.NodeKey.{NodeKey}
use Rattle.sm_names.specs.Sameness.{same_key}
use Rattle.node_table.specs.Table.{Table, row_at, parent_at, children_at, was_given, table_len}

-- the first key of a list, if there is one
abbrev pub first_key : List NodeKey → Option NodeKey
first_key [] = None
first_key (key ∷ rest) = Some key

-- the key that stands next after this one, if there is one
abbrev pub next_key : NodeKey → List NodeKey → Option NodeKey
next_key key [] = None
next_key key (other ∷ rest) = if same_key key other then first_key rest else next_key key rest

module _ {N : Type 0} where
  -- how many parents lie above a key, counted up to this many
  abbrev pub parents_above : Table N → ℕ → NodeKey → ℕ
  parents_above t zero key = 0
  parents_above t (suc most) key = option_map_or (λ parent. suc (parents_above t most parent)) (parent_at t key) 0

  -- how many parents lie above a key, up to the root
  abbrev pub depth_at : Table N → NodeKey → ℕ
  depth_at t key = parents_above t (length t.rows) key

  -- the children of the parent of a key, none where it has no parent
  abbrev pub siblings_at : Table N → NodeKey → List NodeKey
  siblings_at t key = option_map_or (children_at t) (parent_at t key) []

  -- what holds of each table
  pub record IsForest (t : Table N) : Type 0 where
    -- a node is a child of its parent, and of no other
    pub linked : (parent key : NodeKey)
        → (parent_at t key ≡ Some parent) ↔ Contains (children_at t parent) key
    -- a parent is there
    pub parent_there : (parent key : NodeKey) → parent_at t key ≡ Some parent → IsSome (row_at t parent)
    -- no child stands twice
    pub once : (key : NodeKey) → AllPairs (λ (a b : NodeKey). a ≢ b) (children_at t key)
    -- a node lies one step below its parent
    pub deeper : (parent key : NodeKey)
        → parent_at t key ≡ Some parent → depth_at t key ≡ depth_at t parent + 1
    -- a node has fewer ancestors than there are nodes
    pub shallow : (key : NodeKey) → IsSome (row_at t key) → depth_at t key < table_len t
    -- a key that is there was given
    pub given : (key : NodeKey) → IsSome (row_at t key) → was_given t key ≡ true
