-- How a node table lies in its slab. No public clause cites this module.
use Rattle.std.specs.Prelude.{◌≡◌, ◌≢◌, ◌↔◌, ℕ, ◌+◌, ◌<◌, ◌≤◌, ◌^◌, ◌==◌, List, map, Option, Some, None, is_some, IsSome, count_by, option_map, if◌then◌else◌, slice_index_or, Contains, AllPairs, zero, suc, ◌-◌, [], ◌∷◌, ◌++◌}
use Rattle.std.specs.Option.{option_map_or}
use Rattle.slab.specs.Slab.{Slab, get, with_value}
use Rattle.sm_names.specs.declared.keys.NodeKey.{NodeKey}
use Rattle.node_table.specs.Table.{Row, Table, parent_at, children_at}
use Rattle.node_table.specs.Forest.{first_key}
use Rattle.node_table.specs.declared.slot.SlotEntry.{SlotEntry}
use Rattle.node_table.specs.declared.slot.Slot.{Slot}
use Rattle.node_table.specs.declared.slot.Slot.TheVariants.{Retired, Taken}

-- links up and down agree, no child stands twice, and each node ranks below its parent
pub record IsLinked (up : NodeKey → Option NodeKey) (down : NodeKey → List NodeKey) : Type 0 where
  pub linked : (parent key : NodeKey) → (up key ≡ Some parent) ↔ Contains (down parent) key
  pub once : (key : NodeKey) → AllPairs (λ (a b : NodeKey). a ≢ b) (down key)
  pub rank : NodeKey → ℕ
  pub ranked : (parent key : NodeKey) → up key ≡ Some parent → rank parent < rank key

-- the keys from this one on, each the next of the one before, up to this many
abbrev pub run_from : (ℕ → Option NodeKey) → ℕ → Option NodeKey → List NodeKey
run_from next zero first = []
run_from next (suc most) first = option_map_or (λ (key : NodeKey). key ∷ run_from next most (next key.slot)) first []

-- the keys are linked to and fro, between the key before the first and none
abbrev pub IsRun : (ℕ → Option NodeKey) → (ℕ → Option NodeKey) → Option NodeKey → Option NodeKey → List NodeKey → Option NodeKey → Type 0
IsRun next prev before first [] last = (first ≡ None) × (last ≡ before)
IsRun next prev before first (key ∷ rest) last =
    (first ≡ Some key) × ((prev key.slot ≡ before) × IsRun next prev (Some key) (next key.slot) rest last)

-- how many keys were given, so no fewer than a node has children
abbrev pub given_count : ℕ → List ℕ → ℕ
given_count first [] = 0
given_count first (next ∷ rest) = (next - first) + given_count first rest

-- what at a slot is put in the place of a link, if there is a key whose slot it is
abbrev pub at_key : Option NodeKey → Option NodeKey → ℕ → Option NodeKey → Option NodeKey
at_key None link i old = old
at_key (Some key) link i old = if key.slot == i then link else old

-- the parent, where there is no such sibling
abbrev pub unless : Option NodeKey → Option NodeKey → Option NodeKey
unless None parent = parent
unless (Some sibling) parent = None

-- of these children, as many as are not left to come were appended to the list; the next of them is this
pub record Appends (children old now : List NodeKey) (next : Option NodeKey) : Type 0 where
  pub done : List NodeKey
  pub rest : List NodeKey
  pub all : children ≡ done ++ rest
  pub items : now ≡ old ++ done
  pub next_is : next ≡ first_key rest

module _ {N : Type 0} where
  -- the entry of a slot, if it has one
  abbrev pub entry_in : Option (Slot N) → Option (SlotEntry N)
  entry_in None = None
  entry_in (Some Retired) = None
  entry_in (Some (Taken e)) = Some e

  -- the node of a slot, if it has one
  abbrev pub node_in : Option (Slot N) → Option N
  node_in slot = option_map (λ (e : SlotEntry N). e.node) (entry_in slot)

  -- the generation of an entry, if there is one
  abbrev pub stamp_in : Option (SlotEntry N) → Option ℕ
  stamp_in entry = option_map (λ (e : SlotEntry N). e.generation) entry

  -- a link of an entry, if there is one
  abbrev pub link_in : (SlotEntry N → Option NodeKey) → Option (SlotEntry N) → Option NodeKey
  link_in link None = None
  link_in link (Some e) = link e

  -- the first and last child, and the neighbours, of what lies in a slot
  abbrev pub first_in : List (Option (Slot N)) → ℕ → Option NodeKey
  first_in slots i = link_in (λ (e : SlotEntry N). e.first) (entry_in (slice_index_or slots i None))

  -- the last child of the node in a slot, if it has one
  abbrev pub last_in : List (Option (Slot N)) → ℕ → Option NodeKey
  last_in slots i = link_in (λ (e : SlotEntry N). e.last) (entry_in (slice_index_or slots i None))

  -- the child of its parent before the node in a slot, if there is one
  abbrev pub prev_in : List (Option (Slot N)) → ℕ → Option NodeKey
  prev_in slots i = link_in (λ (e : SlotEntry N). e.prev) (entry_in (slice_index_or slots i None))

  -- the child of its parent after the node in a slot, if there is one
  abbrev pub next_in : List (Option (Slot N)) → ℕ → Option NodeKey
  next_in slots i = link_in (λ (e : SlotEntry N). e.next) (entry_in (slice_index_or slots i None))

  -- the parent of what lies in a slot
  abbrev pub parent_of : List (Option (Slot N)) → ℕ → Option NodeKey
  parent_of slots i = link_in (λ (e : SlotEntry N). e.parent) (entry_in (slice_index_or slots i None))

  -- the last child of the parent, if there is a parent
  abbrev pub last_under : List (Option (Slot N)) → Option NodeKey → Option NodeKey
  last_under slots None = None
  last_under slots (Some parent) = last_in slots parent.slot

  -- the children of what lies in a slot
  abbrev pub run_in : List (Option (Slot N)) → ℕ → ℕ → List NodeKey
  run_in slots most i = run_from (next_in slots) most (first_in slots i)

  -- an entry as a row, but for the children
  abbrev pub core_of : SlotEntry N → Row N
  core_of e = record { parent = e.parent; children = []; node = e.node }

  -- the row with these children
  abbrev pub with_children : List NodeKey → Row N → Row N
  with_children keys row = record row { children = keys }

  -- what a contract sees of an entry, over links to the next sibling
  abbrev pub row_of : (ℕ → Option NodeKey) → ℕ → SlotEntry N → Row N
  row_of next most e = with_children (run_from next most e.first) (core_of e)

  -- a slot of the slab is vacant, retired or taken by a node
  abbrev pub row_in : (ℕ → Option NodeKey) → ℕ → Option (Slot N) → Option (Row N)
  row_in next most slot = option_map (row_of next most) (entry_in slot)

  -- the rows that these slots make
  abbrev pub rows_of : List (Option (Slot N)) → ℕ → List (Option (Row N))
  rows_of slots most = map (row_in (next_in slots) most) slots

  -- the table that these slots make, but for the slot of the next birth
  abbrev pub table_of : List (Option (Slot N)) → List ℕ → ℕ → ℕ → Table N
  table_of slots nexts first limit =
      record { rows = rows_of slots (given_count first nexts); nexts = nexts; first = first; limit = limit; vacant = 0 }

  -- the table whose next birth uses this slot
  abbrev pub with_vacant : ℕ → Table N → Table N
  with_vacant slot t = record t { vacant = slot }

  -- the table that this slab makes
  abbrev pub table_in : Slab (Slot N) → List ℕ → ℕ → ℕ → Table N
  table_in slots nexts first limit = with_vacant slots.vacant_key (table_of slots.slots nexts first limit)

  -- the slot is taken by a node
  abbrev pub HasEntry : Slab (Slot N) → ℕ → Type 0
  HasEntry slots slot = (e : SlotEntry N) × (get slots slot ≡ Some (Taken e))

  -- what holds of the fields of each table
  pub record IsSound (slots : List (Option (Slot N))) (nexts : List ℕ) (first count limit : ℕ) : Type 0 where
    pub counted : count ≡ count_by is_some (rows_of slots (given_count first nexts))
    pub within : count ≤ limit
    -- a vacant slot can give another key
    pub vacant : (slot : ℕ) → slice_index_or slots slot None ≡ None → slice_index_or nexts slot first < 2 ^ 32
    pub rising : (slot : ℕ) → first ≤ slice_index_or nexts slot first
    pub narrow : (slot : ℕ) → slice_index_or nexts slot first ≤ 2 ^ 32
    -- a slot with a node gave a key
    pub begun : (slot : ℕ) → IsSome (slice_index_or (rows_of slots (given_count first nexts)) slot None) →
        first < slice_index_or nexts slot first
    -- an entry has the generation that its slot gave last
    pub stamped : (slot generation : ℕ) → stamp_in (entry_in (slice_index_or slots slot None)) ≡ Some generation →
        slice_index_or nexts slot first ≡ generation + 1
    pub forest : IsLinked (parent_at (table_of slots nexts first limit)) (children_at (table_of slots nexts first limit))
    -- the children of each slot are linked to and fro, from its first to its last
    pub chained : (slot : ℕ) → IsRun (next_in slots) (prev_in slots) None (first_in slots slot)
        (run_in slots (given_count first nexts) slot) (last_in slots slot)

  -- the entry at this slot was changed by f
  pub record Edits (old new : Slab (Slot N)) (slot : ℕ) (f : SlotEntry N → SlotEntry N) : Type 0 where
    pub before : SlotEntry N
    pub was : get old slot ≡ Some (Taken before)
    pub becomes : new ≡ with_value old slot (Taken (f before))

  -- the entry with another link
  abbrev pub with_first : Option NodeKey → SlotEntry N → SlotEntry N
  with_first link e = record e { first = link }

  -- the entry with this last child
  abbrev pub with_last : Option NodeKey → SlotEntry N → SlotEntry N
  with_last link e = record e { last = link }

  -- the entry with this child before it
  abbrev pub with_prev : Option NodeKey → SlotEntry N → SlotEntry N
  with_prev link e = record e { prev = link }

  -- the entry with this child after it
  abbrev pub with_next : Option NodeKey → SlotEntry N → SlotEntry N
  with_next link e = record e { next = link }

  -- the entry with another last child, which is the first if there was no last one
  abbrev pub with_adopted : Option NodeKey → NodeKey → SlotEntry N → SlotEntry N
  with_adopted None key e = record e { first = Some key; last = Some key }
  with_adopted (Some last) key e = record e { last = Some key }

  -- the entry without children
  abbrev pub childless : SlotEntry N → SlotEntry N
  childless e = record e { first = None; last = None }

  -- the entry without a parent and neighbours
  abbrev pub loosened : SlotEntry N → SlotEntry N
  loosened e = record e { parent = None; prev = None; next = None }

  -- what f at a slot does to the row at slot i
  abbrev pub at_slot : Option NodeKey → (Row N → Row N) → ℕ → Row N → Row N
  at_slot None f i row = row
  at_slot (Some key) f i row = if key.slot == i then f row else row

  -- the row of the parent is as f makes it
  abbrev pub EditsRows : List (Option (Row N)) → List (Option (Row N)) → Option NodeKey → (Row N → Row N) → Type 0
  EditsRows old new parent f =
      (i : ℕ) → slice_index_or new i None ≡ option_map (at_slot parent f i) (slice_index_or old i None)

  -- no slot but this was taken or left, and it has what f makes of the entry; no other has another node or parent
  pub record Relinks (old new : Slab (Slot N)) (f : ℕ → Row N → Row N) : Type 0 where
    pub vacant_key : new.vacant_key ≡ old.vacant_key
    pub capacity : new.capacity ≡ old.capacity
    pub kinds : (i : ℕ) → is_some (get new i) ≡ is_some (get old i)
    pub cores : (i : ℕ) → option_map core_of (entry_in (get new i)) ≡ option_map (f i) (option_map core_of (entry_in (get old i)))
    pub stamps : (i : ℕ) → stamp_in (entry_in (get new i)) ≡ stamp_in (entry_in (get old i))

  -- the key follows the last child of the parent, if there is a parent
  pub record LinksLast (old new : Slab (Slot N)) (parent : Option NodeKey) (key : NodeKey) (last : Option NodeKey) : Type 0 where
    pub same_rows : Relinks old new (λ i row. row)
    pub firsts : (i : ℕ) → first_in new.slots i ≡ at_key (unless last parent) (Some key) i (first_in old.slots i)
    pub lasts : (i : ℕ) → last_in new.slots i ≡ at_key parent (Some key) i (last_in old.slots i)
    pub prevs : (i : ℕ) → prev_in new.slots i ≡ prev_in old.slots i
    pub nexts : (i : ℕ) → next_in new.slots i ≡ at_key last (Some key) i (next_in old.slots i)

  -- the neighbours of a child are linked to one another, or to the parent
  pub record Joins (old new : Slab (Slot N)) (parent : NodeKey) (prev next : Option NodeKey) : Type 0 where
    pub same_rows : Relinks old new (λ i row. row)
    pub firsts : (i : ℕ) → first_in new.slots i ≡ at_key (unless prev (Some parent)) next i (first_in old.slots i)
    pub lasts : (i : ℕ) → last_in new.slots i ≡ at_key (unless next (Some parent)) prev i (last_in old.slots i)
    pub prevs : (i : ℕ) → prev_in new.slots i ≡ at_key next prev i (prev_in old.slots i)
    pub nexts : (i : ℕ) → next_in new.slots i ≡ at_key prev next i (next_in old.slots i)

-- the slot's number is one more, and no other
pub record Bumped (old new : List ℕ) (first slot : ℕ) : Type 0 where
  pub at : slice_index_or new slot first ≡ slice_index_or old slot first + 1
  pub others : (i : ℕ) → i ≢ slot → slice_index_or new i first ≡ slice_index_or old i first
