-- How a forest lies in its table of nodes and its entries. No public clause of `alloc_event` cites this module.
use Rattle.std.specs.Prelude.{◌≡◌, ◌≢◌, ℕ, ◌+◌, ◌<◌, Bool, true, false, ◌==◌, ◌&&◌, ◌||◌, not, nat_lt}
use Rattle.std.specs.Prelude.{⊤, if◌then◌else◌, List, [], ◌∷◌, map, length, reverse, Option, Some, None, option_map, is_none}
use Rattle.std.specs.List.{list_any, list_all, filter_map, flat_map, AllByRecursion}
use Rattle.std.specs.Option.{option_map_or}
use Rattle.sm_names.specs.declared.keys.NodeKey.{NodeKey}
use Rattle.sm_names.specs.declared.outcomes.Buffers.{Buffers}
use Rattle.sm_names.specs.Sameness.{same_key}
use Rattle.sm_names.specs.declared.keys.HeldBuffer.{HeldBuffer}
use Rattle.node_table.specs.Table.{Table, node_at, parent_at, was_given, table_len}
use Rattle.forest_store.specs.declared.change.Change.{Change}
use Rattle.forest_store.specs.declared.entry.Entry.{Entry}
use Rattle.forest_store.specs.declared.node.Node.{Node}
use Rattle.sm_names.specs.Forced.{forced}
use Rattle.forest_store.specs.Forest.{Collection, Forest, beside}
use Rattle.forest_store.specs.Settling.{Handles, Settles, put, given_back, standing}
use Rattle.forest_store.specs.Nodes.{new_root, new_child}
use Rattle.forest_store.specs.Questions.{is_live_node}
use Rattle.forest_store.specs.Scenes.{IsSound}
use Rattle.forest_store.specs.Decisions.{is_left_of}
use Rattle.forest_store.specs.Ties.{are_rooted}
use Rattle.forest_store.specs.Units.{GoTogether, are_united}

-- a collection, with the keys of its nodes in their place
pub record CollectionRow : Type 0 where
  pub id : ℕ
  pub keys : List NodeKey
  pub buffers : Option Buffers
  pub held : List HeldBuffer

-- what an entry keeps
abbrev pub row_of : Entry → CollectionRow
row_of e = record { id = e.id; keys = e.keys.items; buffers = e.buffers; held = e.held.items }

-- what the entries keep
abbrev pub rows_of : List Entry → List CollectionRow
rows_of es = map row_of es

-- the place of the first entry with this id
abbrev pub place_in : ℕ → List Entry → Option ℕ
place_in id [] = None
place_in id (e ∷ es) = if e.id == id then Some 0 else option_map (λ n. n + 1) (place_in id es)

-- each id is smaller than those behind it
abbrev pub AreRising : List CollectionRow → Type 0
AreRising [] = ⊤
AreRising (s ∷ ss) = AllByRecursion (λ (later : CollectionRow). s.id < later.id) ss × AreRising ss

-- the rows by id, with this one in place of the one with its id
abbrev pub put_row : CollectionRow → List CollectionRow → List CollectionRow
put_row new [] = new ∷ []
put_row new (s ∷ ss) =
    let on : List CollectionRow = put_row new ss in
    if s.id == new.id then new ∷ ss else (if nat_lt new.id s.id then new ∷ s ∷ ss else s ∷ on)

-- the nodes with these keys
abbrev pub nodes_with : Table Node → List NodeKey → List Node
nodes_with t keys = filter_map (node_at t) keys

-- the collection of a row
abbrev pub collection_in : Table Node → CollectionRow → Collection
collection_in t s = record { id = s.id; nodes = nodes_with t s.keys; buffers = s.buffers; held = s.held }

-- the forest that the table and the rows make
abbrev pub forest_of : Table Node → List CollectionRow → Forest
forest_of t ss = record { limit = t.limit; collections = map (collection_in t) ss; nexts = t.nexts }

-- the keys of all rows
abbrev pub all_keys : List CollectionRow → List NodeKey
all_keys ss = flat_map (λ (s : CollectionRow). s.keys) ss

-- live and strong
abbrev pub is_strong : Node → Bool
is_strong n = is_live_node n && not n.weak

-- no key stands twice
abbrev pub are_apart : List NodeKey → Bool
are_apart [] = true
are_apart (k ∷ ks) = not (list_any (same_key k) ks) && are_apart ks

-- the key has a node, which is of this collection
abbrev pub is_filed : Table Node → ℕ → NodeKey → Bool
is_filed t id key = option_map_or (λ (n : Node). n.collection == id) (node_at t key) false

-- each key of each row has a node of it
abbrev pub are_filed : Table Node → List CollectionRow → Bool
are_filed t ss = list_all (λ (s : CollectionRow). list_all (is_filed t s.id) s.keys) ss

-- a collection as the forced steps ask for it, each of whose nodes that is not gone hangs on its parent, and is of its unit
-- or heads one, and whose units go together
pub record IsWhole (c : Collection) : Type 0 where
  pub sound : IsSound c
  pub rooted : are_rooted (reverse c.nodes) ≡ true
  pub united : are_united (reverse c.nodes) ≡ true
  pub together : GoTogether c.nodes

-- the nodes hang on their parents, and the table has the parent of each that is not gone
pub record IsHung (t : Table Node) (nodes : List Node) : Type 0 where
  pub linked : AllByRecursion (λ (n : Node). n.gone ≡ false → parent_at t n.key ≡ n.parent) nodes
  pub rooted : are_rooted (reverse nodes) ≡ true

-- the table gave the keys of the nodes' heads
abbrev pub AreHeadsGiven : Table Node → List Node → Type 0
AreHeadsGiven t nodes = AllByRecursion (λ (n : Node). was_given t n.head ≡ true) nodes

-- the parent that the table has of a node, gone or not, is of the same collection
abbrev pub AreKin : Table Node → Type 0
AreKin t = (key p : NodeKey) (n q : Node) → node_at t key ≡ Some n → parent_at t key ≡ Some p → node_at t p ≡ Some q →
    q.collection ≡ n.collection

-- what holds of the table and the rows of each forest
pub record IsStored (t : Table Node) (ss : List CollectionRow) : Type 0 where
  pub first : t.first ≡ 0
  pub rising : AreRising ss
  pub apart : are_apart (all_keys ss) ≡ true
  pub named : (key : NodeKey) (n : Node) → node_at t key ≡ Some n → n.key ≡ key
  pub filed : are_filed t ss ≡ true
  pub there : (key : NodeKey) (n : Node) → node_at t key ≡ Some n → list_any (same_key key) (all_keys ss) ≡ true
  pub counted : length (all_keys ss) ≡ table_len t
  pub linked : (key : NodeKey) (n : Node) → node_at t key ≡ Some n → n.gone ≡ false → parent_at t key ≡ n.parent
  pub heads : (key : NodeKey) (n : Node) → node_at t key ≡ Some n → was_given t n.head ≡ true
  pub whole : AllByRecursion (λ (s : CollectionRow). IsWhole (collection_in t s)) ss
  pub parents : (key p : NodeKey) → parent_at t key ≡ Some p → was_given t p ≡ true
  pub kin : AreKin t

-- this node, where it has the key of the other
abbrev pub written : Node → Node → Node
written m n = if same_key m.key n.key then m else n

-- the node as it is written last, or as it was
abbrev pub stored : List Node → Node → Node
stored [] n = n
stored (m ∷ ms) n = stored ms (written m n)

-- the two have the same limit and the same length, and gave the same keys
pub record SameTable (old new : Table Node) : Type 0 where
  pub first : new.first ≡ old.first
  pub nexts : new.nexts ≡ old.nexts
  pub limit : new.limit ≡ old.limit
  pub len : table_len new ≡ table_len old

-- the nodes are in their places, and nothing else changed
pub record Stores (old new : Table Node) (nodes : List Node) : Type 0 where
  pub look : (key : NodeKey) → node_at new key ≡ option_map (stored nodes) (node_at old key)
  pub parents : (key : NodeKey) → parent_at new key ≡ parent_at old key
  pub same : SameTable old new

-- each node is of this collection
abbrev pub all_of : ℕ → List Node → Bool
all_of id nodes = list_all (λ (n : Node). n.collection == id) nodes

-- the forced steps that follow on this collection were made, and it was put back
pub record Finishes (pool : ℕ) (handles : Handles) (old : Table Node) (before : List CollectionRow)
    (new : Table Node) (behind : List CollectionRow) (c : Collection) : Type 0 where
  pub after : Collection
  pub settles : Settles pool handles (beside (forest_of old before) c.id) c after
  pub collections : map (collection_in new) behind ≡ put (given_back handles after) (map (collection_in old) before)
  pub rests : forced pool (standing handles (beside (forest_of new behind) c.id) (given_back handles after)) ≡ None

-- a node that the change loses is there, and not gone
abbrev pub loses_left : Change → List Node → Bool
loses_left (Change.Loss origin cause) nodes = is_left_of nodes origin
loses_left _ nodes = true

-- the node that is born with this key: a child, or a root of the collection
abbrev pub born : Option Node → Bool → ℕ → ℕ → ℕ → NodeKey → Node
born None attached id event client key = new_root key id event client
born (Some above) attached id event client key = new_child attached key event client above

-- the node with this key in place of the one that it was drafted with: it heads its unit if it is a root or attached
abbrev pub named : NodeKey → Node → Node
named key n = record n { key = key; head = if is_none n.parent || n.attached then key else n.head }

-- the key was given to no node before, and to this one now; its slot is the one that was next
pub record Gives (old new : Table Node) (key : NodeKey) : Type 0 where
  pub slot : key.slot ≡ old.vacant
  pub fresh : was_given old key ≡ false
  pub given : (other : NodeKey) → was_given new other ≡ (same_key key other || was_given old other)
  pub first : new.first ≡ old.first
  pub limit : new.limit ≡ old.limit

-- there is one more node, under a key that was given to none before
pub record Bears (old new : Table Node) (node : Node) : Type 0 where
  pub look : (key : NodeKey) → node_at new key ≡ (if same_key node.key key then Some node else node_at old key)
  pub parents : (key : NodeKey) → parent_at new key ≡ (if same_key node.key key then node.parent else parent_at old key)
  pub none : node_at old node.key ≡ None
  pub gives : Gives old new node.key
  pub len : table_len new ≡ table_len old + 1

-- the table has this node no more, its children have no parent, and all else is there still
pub record TakesOut (old new : Table Node) (key : NodeKey) (node : Node) : Type 0 where
  pub was : node_at old key ≡ Some node
  pub look : (other : NodeKey) → node_at new other ≡ (if same_key key other then None else node_at old other)
  pub parents : (other : NodeKey) → other ≢ key → parent_at old other ≢ Some key → parent_at new other ≡ parent_at old other
  pub fewer : (other p : NodeKey) → parent_at new other ≡ Some p → parent_at old other ≡ Some p
  pub given : (other : NodeKey) → was_given new other ≡ was_given old other
  pub first : new.first ≡ old.first
  pub limit : new.limit ≡ old.limit
  pub shorter : table_len new + 1 ≡ table_len old
