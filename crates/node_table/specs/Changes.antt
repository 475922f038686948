-- What each call that changes a node table does to every key.
use Rattle.std.specs.Prelude.{◌≡◌, ◌≢◌, ℕ, ◌+◌, ◌<◌, false, not, ◌||◌, [], ◌∷◌, ◌++◌, Option, Some, None, option_map, filter, if◌then◌else◌}
use Rattle.sm_names.specs.declared.keys.NodeKey.{NodeKey}
use Rattle.sm_names.specs.Sameness.{same_key}
use Rattle.node_table.specs.Table.{Row, Table, row_at, node_at, parent_at, next_at, was_given, table_len}

module _ {N : Type 0} where
  -- the row with this child, born last
  abbrev pub with_child : NodeKey → Row N → Row N
  with_child child row = record row { children = row.children ++ child ∷ [] }

  -- the row without this child, the others in their order
  abbrev pub without_child : NodeKey → Row N → Row N
  without_child child row = record row { children = filter (λ other. not (same_key child other)) row.children }

  -- the row without its parent
  abbrev pub without_parent : Row N → Row N
  without_parent row = record row { parent = None }

  -- the row with this node
  abbrev pub with_node : N → Row N → Row N
  with_node node row = record row { node = node }

  -- the row of this key as f makes it if the key is the parent, and as it is if not
  abbrev pub at_parent : Option NodeKey → (Row N → Row N) → NodeKey → Row N → Row N
  at_parent None f key row = row
  at_parent (Some parent) f key row = if same_key parent key then f row else row

  -- the same keys were given, and the limit is the same
  pub record SameKeys (old new : Table N) : Type 0 where
    pub given : (key : NodeKey) → was_given new key ≡ was_given old key
    pub nexts : (slot : ℕ) → next_at new slot ≡ next_at old slot
    pub limit : new.limit ≡ old.limit

  -- a node was born under the next key of the vacant slot, which no node had before; its parent has it as
  -- the last child, and no other row changed
  pub record Births (old new : Table N) (parent : Option NodeKey) (node : N) (key : NodeKey) : Type 0 where
    pub fresh : was_given old key ≡ false
    pub slot : key.slot ≡ old.vacant
    pub next : key.generation ≡ next_at old key.slot
    pub born : row_at new key ≡ Some (record { parent = parent; children = []; node = node })
    pub others : (other : NodeKey) → other ≢ key
        → row_at new other ≡ option_map (at_parent parent (with_child key) other) (row_at old other)
    pub given : (other : NodeKey) → was_given new other ≡ (same_key key other || was_given old other)
    pub nexts : (slot : ℕ) → slot ≢ key.slot → next_at new slot ≡ next_at old slot
    pub longer : table_len new ≡ table_len old + 1
    pub limit : new.limit ≡ old.limit

  -- the key has no parent, its parent lost that child, and no other row changed
  pub record Cuts (old new : Table N) (key : NodeKey) : Type 0 where
    pub loose : row_at new key ≡ option_map without_parent (row_at old key)
    pub others : (other : NodeKey) → other ≢ key
        → row_at new other ≡ option_map (at_parent (parent_at old key) (without_child key) other) (row_at old other)
    pub keys : SameKeys old new
    pub vacant : new.vacant ≡ old.vacant
    pub len : table_len new ≡ table_len old

  -- the key is gone with this node, its parent lost that child, and no other row changed; the next birth uses its slot, unless
  -- the key had the last generation
  pub record Removes (old new : Table N) (key : NodeKey) (node : N) : Type 0 where
    pub was : node_at old key ≡ Some node
    pub gone : row_at new key ≡ None
    pub others : (other : NodeKey) → other ≢ key
        → row_at new other ≡ option_map (at_parent (parent_at old key) (without_child key) other) (row_at old other)
    pub keys : SameKeys old new
    pub shorter : table_len new + 1 ≡ table_len old
    pub vacant : key.generation < 4294967295 → new.vacant ≡ key.slot

  -- the key has this node, and nothing else changed
  pub record Writes (old new : Table N) (key : NodeKey) (node : N) : Type 0 where
    pub written : row_at new key ≡ option_map (with_node node) (row_at old key)
    pub others : (other : NodeKey) → other ≢ key → row_at new other ≡ row_at old other
    pub keys : SameKeys old new
    pub vacant : new.vacant ≡ old.vacant
    pub len : table_len new ≡ table_len old
