-- The store of a forest: what it shows, that it rests, that its parts agree, and what a birth makes of it. No public
-- clause of `alloc_event` cites this module.
use Rattle.std.specs.Prelude.{◌≡◌, ℕ, ◌<◌, ◌==◌, true, false, List, Some, length, map}
use Rattle.std.specs.List.{find, list_any}
use Rattle.sm_names.specs.declared.keys.NodeKey.{NodeKey}
use Rattle.node_table.specs.Table.{Table, node_at}
use Rattle.forest_store.specs.declared.entry.Entry.{Entry}
use Rattle.forest_store.specs.declared.insertion.Birth.{Birth}
use Rattle.forest_store.specs.declared.node.Node.{Node}
use Rattle.forest_store.specs.declared.store.NodeStore.{NodeStore}
use Rattle.forest_store.specs.declared.store.Store.{Store}
use Rattle.forest_store.specs.declared.unit_counts.Unit.{Unit}
use Rattle.forest_store.specs.Calm.{IsForest, unkept_except, strong_count}
use Rattle.forest_store.specs.Counts.{AreUnits}
use Rattle.forest_store.specs.Forest.{Forest}
use Rattle.forest_store.specs.Insertion.{IsInserted, IsRefused}
use Rattle.forest_store.specs.Reserved.{reserved_count}
use Rattle.forest_store.specs.CollectionRows.{IsStored, CollectionRow, collection_in, forest_of, nodes_with, row_of, rows_of}

-- the forest that the store shows
abbrev pub forest_in : Store → Forest
forest_in s = forest_of s.nodes.table (rows_of s.entries.items)

-- the store is that of a forest at rest
abbrev pub IsResting : Store → Type 0
IsResting s = IsForest s.nodes.table s.entries.items s.nodes.units.items

-- the node is inserted under this key
abbrev pub InsertedIn : Store → Store → ℕ → Birth → NodeKey → Type 0
InsertedIn old new id b key = IsInserted old.nodes.table new.nodes.table old.entries.items new.entries.items id b key

-- no node is
abbrev pub RefusedIn : Store → Store → Type 0
RefusedIn old new = IsRefused old.nodes.table new.nodes.table old.entries.items new.entries.items

-- each node has the key that it is stored under
abbrev pub AreNamed : Table Node → Type 0
AreNamed t = (key : NodeKey) (n : Node) → node_at t key ≡ Some n → n.key ≡ key

-- the nodes of the collection
abbrev pub nodes_in : NodeStore → Entry → List Node
nodes_in s e = nodes_with s.table e.keys.items

-- the table, the rows and the counts of the units agree, and the entry is one of the collections, with its own counts: what each
-- small change of the store keeps, whatever is forced by it
pub record StoreAgrees (t : Table Node) (us : List Unit) (ss : List CollectionRow) (e : Entry) : Type 0 where
  pub kept : IsStored t ss
  pub found : find (λ (x : CollectionRow). x.id == e.id) ss ≡ Some (row_of e)
  pub units : AreUnits us (map (collection_in t) ss)
  pub inside : (key : NodeKey) (n : Node) → node_at t key ≡ Some n → key.slot < length us
  pub strong : e.strong ≡ strong_count (nodes_with t e.keys.items)
  pub reserved : e.reserved ≡ reserved_count (nodes_with t e.keys.items)
  pub unkept_known : e.unkept_known ≡ true → list_any (unkept_except e.unkept.items) (nodes_with t e.keys.items) ≡ false
