-- What a contract sees of a node table.
-- Clauses speak through `row_at`, `node_at`, `parent_at`, `children_at`, `was_given`, `next_at` and
-- `table_len`.
use Rattle.std.specs.Prelude.{ℕ, ◌+◌, ◌==◌, Bool, ◌&&◌, nat_lt, nat_le, List, [], Option, Some, None, is_some, count_by, option_map, if◌then◌else◌, slice_index_or, refl}
use Rattle.std.specs.Coded.{Coded, code_by, coded×, coded_ℕ, coded_list, coded_option}
use Rattle.sm_names.specs.declared.keys.NodeKey.{NodeKey}

-- a node with its links, the children by birth
pub record Row (N : Type 0) : Type 0 where
  pub parent : Option NodeKey
  pub children : List NodeKey
  pub node : N

-- the row or nothing of each slot, the generation that each slot gives next, the generation that a
-- slot gives first, how many nodes fit, and the slot that the next birth uses
pub record Table (N : Type 0) : Type 0 where
  pub rows : List (Option (Row N))
  pub nexts : List ℕ
  pub first : ℕ
  pub limit : ℕ
  pub vacant : ℕ

-- a key is stored as the pair of its fields
abbrev pub key_code : Coded NodeKey
key_code =
    code_by (ℕ × ℕ) (coded× coded_ℕ coded_ℕ) (λ k. (k.slot, k.generation)) (λ p. record { slot = p.0; generation = p.1 }) (λ _. refl)

-- a row is stored as the tuple of its fields
abbrev pub row_code : {N : Type 0} → Coded N → Coded (Row N)
row_code {N} code =
    code_by (Option NodeKey × (List NodeKey × N))
    (coded× (coded_option key_code) (coded× (coded_list key_code) code))
    (λ r. (r.parent, (r.children, r.node)))
    (λ p. record { parent = p.0; children = p.1.0; node = p.1.1 })
    (λ _. refl)

-- a table is stored as the tuple of its fields
abbrev pub table_code : {N : Type 0} → Coded N → Coded (Table N)
table_code {N} code =
    code_by (List (Option (Row N)) × (List ℕ × (ℕ × (ℕ × ℕ))))
    (coded× (coded_list (coded_option (row_code code))) (coded× (coded_list coded_ℕ) (coded× coded_ℕ (coded× coded_ℕ coded_ℕ))))
    (λ t. (t.rows, (t.nexts, (t.first, (t.limit, t.vacant)))))
    (λ p. record { rows = p.0; nexts = p.1.0; first = p.1.1.0; limit = p.1.1.1.0; vacant = p.1.1.1.1 })
    (λ _. refl)

module _ {N : Type 0} where
  -- a table that never had a node
  abbrev pub empty_table : ℕ → ℕ → Table N
  empty_table first limit = record { rows = []; nexts = []; first = first; limit = limit; vacant = 0 }

  -- the generation that a slot gives next
  abbrev pub next_at : Table N → ℕ → ℕ
  next_at t slot = slice_index_or t.nexts slot t.first

  -- the row of a key: the slot's row, if the key is the last that the slot gave
  abbrev pub row_at : Table N → NodeKey → Option (Row N)
  row_at t key = if next_at t key.slot == key.generation + 1 then slice_index_or t.rows key.slot None else None

  -- the parent in a row, if there is one
  abbrev pub parent_in : Option (Row N) → Option NodeKey
  parent_in None = None
  parent_in (Some row) = row.parent

  -- the children in a row
  abbrev pub children_in : Option (Row N) → List NodeKey
  children_in None = []
  children_in (Some row) = row.children

  -- the node of a key
  abbrev pub node_at : Table N → NodeKey → Option N
  node_at t key = option_map (λ (row : Row N). row.node) (row_at t key)

  -- the parent of a key, if it is there and has one
  abbrev pub parent_at : Table N → NodeKey → Option NodeKey
  parent_at t key = parent_in (row_at t key)

  -- the children of a key by birth, none where it is not there
  abbrev pub children_at : Table N → NodeKey → List NodeKey
  children_at t key = children_in (row_at t key)

  -- the key was given to some node, there or not
  abbrev pub was_given : Table N → NodeKey → Bool
  was_given t key = nat_le t.first key.generation && nat_lt key.generation (next_at t key.slot)

  -- how many nodes there are
  abbrev pub table_len : Table N → ℕ
  table_len t = count_by is_some t.rows
