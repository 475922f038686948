-- What the table and the rows are once nodes are forgotten. No public clause of `alloc_event` cites this module.
use Rattle.std.specs.Prelude.{◌≡◌, ◌≢◌, ℕ, ◌+◌, ◌<◌, Bool, true, false, ◌==◌, ◌&&◌, ◌||◌, not}
use Rattle.std.specs.Prelude.{if◌then◌else◌, List, [], map, length, get_or, Option, Some, None, is_some, IsSome, Contains}
use Rattle.std.specs.List.{filter, find, list_all, list_any}
use Rattle.std.specs.Option.{option_map_or}
use Rattle.sm_names.specs.declared.keys.NodeKey.{NodeKey}
use Rattle.sm_names.specs.Sameness.{same_key}
use Rattle.node_table.specs.Table.{Table, node_at, parent_at, children_at, table_len}
use Rattle.node_table.specs.Changes.{SameKeys}
use Rattle.forest_store.specs.declared.entry.Entry.{Entry}
use Rattle.forest_store.specs.declared.node.Node.{Node}
use Rattle.forest_store.specs.Calm.{unkept_except}
use Rattle.forest_store.specs.CollectionRows.{CollectionRow, are_apart, is_filed, nodes_with, place_in, row_of}
use Rattle.forest_store.specs.Nodes.{is_unkept}

-- the key is a child of the other
pub record IsChild (t : Table Node) (parent child : NodeKey) : Type 0 where
  pub listed : Contains (children_at t parent) child
  pub parent_is : parent_at t child ≡ Some parent
  pub other : child ≢ parent

-- the key has no child any more, and no node changed
pub record Unlinks (old new : Table Node) (key : NodeKey) : Type 0 where
  pub leaf : children_at new key ≡ []
  pub look : (k : NodeKey) → node_at new k ≡ node_at old k
  pub parents : (k : NodeKey) → parent_at old k ≢ Some key → parent_at new k ≡ parent_at old k
  pub fewer : (k p : NodeKey) → parent_at new k ≡ Some p → parent_at old k ≡ Some p
  pub keys : SameKeys old new
  pub len : table_len new ≡ table_len old

-- the node of the key is gone, its children have no parent, and no other node changed
pub record TakesOut (old new : Table Node) (key : NodeKey) : Type 0 where
  pub was : IsSome (node_at old key)
  pub look : (k : NodeKey) → node_at new k ≡ (if same_key key k then None else node_at old k)
  pub parents : (k : NodeKey) → k ≢ key → parent_at old k ≢ Some key → parent_at new k ≡ parent_at old k
  pub fewer : (k p : NodeKey) → parent_at new k ≡ Some p → parent_at old k ≡ Some p
  pub keys : SameKeys old new
  pub shorter : table_len new + 1 ≡ table_len old

-- the node, unless it is over
abbrev pub unless_unkept : Option Node → Option Node
unless_unkept o = if option_map_or is_unkept o false then None else o

-- what a key finds once the nodes with these keys that are over are taken out
abbrev pub left_at : Table Node → List NodeKey → NodeKey → Option Node
left_at t keys key = if list_any (same_key key) keys then unless_unkept (node_at t key) else node_at t key

-- of the row with this id, the nodes that are over are taken out; without such a row nothing is
pub record IsLeftIn (old new : Table Node) (id : ℕ) (ss : List CollectionRow) : Type 0 where
  pub look : (s : CollectionRow) → find (λ (x : CollectionRow). x.id == id) ss ≡ Some s → (k : NodeKey) →
      node_at new k ≡ left_at old s.keys k
  pub none : find (λ (x : CollectionRow). x.id == id) ss ≡ None → new ≡ old

-- the table has a node of the key
abbrev pub is_found : Table Node → NodeKey → Bool
is_found t key = is_some (node_at t key)

-- the row with those of its keys that the table has
abbrev pub thinned : Table Node → CollectionRow → CollectionRow
thinned t s = record s { keys = filter (is_found t) s.keys }

-- the rows, where the one with this id has only keys that the table has
abbrev pub thin_in : Table Node → ℕ → List CollectionRow → List CollectionRow
thin_in t id ss = map (λ (s : CollectionRow). if s.id == id then thinned t s else s) ss

-- the row has no key and no page
abbrev pub is_bare : CollectionRow → Bool
is_bare s = length s.keys == 0 && length s.held == 0

-- the entry of the collection with this id stands at this place, and has no key and no page
pub record IsBareAt (id at : ℕ) (es : List Entry) : Type 0 where
  pub place : place_in id es ≡ Some at
  pub bare : (d : Entry) → is_bare (row_of (get_or es at d)) ≡ true

-- the rows without the one with this id, if that is bare
abbrev pub without_bare : ℕ → List CollectionRow → List CollectionRow
without_bare id ss = filter (λ (s : CollectionRow). not (s.id == id && is_bare s)) ss

-- the key stands at this place
pub record IsPlace (keys : List NodeKey) (key : NodeKey) (at : ℕ) : Type 0 where
  pub within : at < length keys
  pub is : get_or keys at key ≡ key

-- the node with this key, if it is over, is of this collection
abbrev pub is_own_if_unkept : Table Node → ℕ → NodeKey → Bool
is_own_if_unkept t id key = option_map_or (λ (n : Node). not (is_unkept n) || n.collection == id) (node_at t key) true

-- the key is none of these, or that of a node that is not over
abbrev pub is_left_by : Table Node → List NodeKey → NodeKey → Bool
is_left_by t unkept key = not (list_any (same_key key) unkept && option_map_or is_unkept (node_at t key) false)

-- of the nodes with these keys those that are noted are all that are over, and the noted ones are over only among these
pub record AreAllUnkept (t : Table Node) (unkept keys : List NodeKey) : Type 0 where
  pub left : (k : NodeKey) → left_at t unkept k ≡ left_at t keys k
  pub found : (now : Table Node) → ((k : NodeKey) → node_at now k ≡ left_at t keys k) →
      filter (is_left_by t unkept) keys ≡ filter (is_found now) keys

-- each of the first keys is one of the others
abbrev pub AreMore : List NodeKey → List NodeKey → Type 0
AreMore few more = (key : NodeKey) → list_any (same_key key) few ≡ true → list_any (same_key key) more ≡ true

-- the key is noted, or nothing is known
abbrev pub IsNotedIn : Entry → NodeKey → Type 0
IsNotedIn e key = e.unkept_known ≡ true → list_any (same_key key) e.unkept.items ≡ true

-- the entry's keys stand once, and are those of all nodes of the collection; no other node is over than is noted, if it is tidy
pub record IsForgettable (t : Table Node) (e : Entry) : Type 0 where
  pub named : (key : NodeKey) (n : Node) → node_at t key ≡ Some n → n.key ≡ key
  pub apart : are_apart e.keys.items ≡ true
  pub filed : list_all (is_filed t e.id) e.keys.items ≡ true
  pub all : (key : NodeKey) (n : Node) → node_at t key ≡ Some n → n.collection ≡ e.id → list_any (same_key key) e.keys.items ≡ true
  pub unkept_known : e.unkept_known ≡ true → list_any (unkept_except e.unkept.items) (nodes_with t e.keys.items) ≡ false

-- the entry keeps those of its keys that the table has, which are of nodes that are not over
pub record IsThinned (now : Table Node) (old new : Entry) : Type 0 where
  pub id : new.id ≡ old.id
  pub keys : new.keys.items ≡ filter (is_found now) old.keys.items
  pub buffers : new.buffers ≡ old.buffers
  pub held : new.held ≡ old.held
  pub strong : new.strong ≡ old.strong
  pub reserved : new.reserved ≡ old.reserved

-- the entry may be known to be tidy no more, and more of its nodes may be noted, and no more than that changed
pub record IsNoting (old new : Entry) : Type 0 where
  pub row : row_of new ≡ row_of old
  pub strong : new.strong ≡ old.strong
  pub reserved : new.reserved ≡ old.reserved
  pub unkept_known : new.unkept_known ≡ true → old.unkept_known ≡ true
  pub more : AreMore old.unkept.items new.unkept.items
