-- New names that are bijections by construction: one swap after another.
use Rattle.std.specs.Prelude.{ℕ, ◌==◌, Bool, if◌then◌else◌, List, [], ◌∷◌}
use Rattle.sm_names.specs.declared.keys.NodeKey.{NodeKey}
use Rattle.sm_names.specs.Sameness.{same_key}
use Rattle.core_likeness.specs.declared.names.Names.{Names}

module _ {A : Type 0} (same : A → A → Bool) where
  -- the two names of the swap change places
  abbrev pub swapped : A × A → A → A
  swapped swap name = if same swap.0 name then swap.1 else (if same swap.1 name then swap.0 else name)

  -- the name after these swaps, the first one first
  abbrev pub under : List (A × A) → A → A
  under [] name = name
  under (swap ∷ swaps) name = under swaps (swapped swap name)

-- the numbers are one
abbrev pub same_number : ℕ → ℕ → Bool
same_number a b = a == b

-- the new keys of nodes
abbrev pub new_key : Names → NodeKey → NodeKey
new_key names = under same_key names.keys.items

-- the new numbers of collections
abbrev pub new_id : Names → ℕ → ℕ
new_id names = under same_number names.ids.items

-- the new numbers of trackers
abbrev pub new_number : Names → ℕ → ℕ
new_number names = under same_number names.numbers.items
