-- The counts that are kept of a collection, and that nothing is forced in it while it has a keeper. No public clause of
-- `alloc_event` cites this module.
use Rattle.std.specs.Prelude.{◌≡◌, ◌≢◌, ℕ, Bool, true, false, not, ◌&&◌, ◌==◌, nat_lt, if◌then◌else◌, List, [], ◌∷◌, None}
use Rattle.std.specs.List.{AllByRecursion, list_any}
use Rattle.sm_names.specs.declared.keys.NodeKey.{NodeKey}
use Rattle.sm_names.specs.Sameness.{same_key}
use Rattle.sm_names.specs.Words.{times}
use Rattle.node_table.specs.Table.{Table}
use Rattle.forest_store.specs.declared.entry.Entry.{Entry}
use Rattle.forest_store.specs.declared.node.Node.{Node}
use Rattle.forest_store.specs.declared.unit_counts.Unit.{Unit}
use Rattle.forest_store.specs.Counts.{HaveUnits}
use Rattle.forest_store.specs.Decisions.{decided}
use Rattle.forest_store.specs.Forest.{Collection}
use Rattle.forest_store.specs.Given.{HaveGiven}
use Rattle.forest_store.specs.CollectionRows.{IsStored, collection_in, is_strong, nodes_with, row_of, rows_of}
use Rattle.forest_store.specs.Nodes.{is_unkept}
use Rattle.forest_store.specs.Reserved.{reserved_count}

-- no step would be forced in the collection, were a strong handle open
abbrev pub IsQuiescent : Collection → Type 0
IsQuiescent c = decided c.nodes c.buffers true ≡ None

-- how many of the nodes are live and strong
abbrev pub strong_count : List Node → ℕ
strong_count nodes = times is_strong nodes

-- the node is over, and none of those that are noted
abbrev pub unkept_except : List NodeKey → Node → Bool
unkept_except unkept n = is_unkept n && not (list_any (same_key n.key) unkept)

-- the collection of the entry is calm, its counts are those of its nodes, and where it is tidy none of them is over but
-- those that are noted
pub record IsCounted (t : Table Node) (e : Entry) : Type 0 where
  pub calm : IsQuiescent (collection_in t (row_of e))
  pub strong : e.strong ≡ strong_count (nodes_with t e.keys.items)
  pub reserved : e.reserved ≡ reserved_count (nodes_with t e.keys.items)
  pub unkept_known : e.unkept_known ≡ true → list_any (unkept_except e.unkept.items) (nodes_with t e.keys.items) ≡ false

-- so of each entry
abbrev pub AreCounted : Table Node → List Entry → Type 0
AreCounted t es = AllByRecursion (IsCounted t) es

-- and of each but the one with this id
abbrev pub AreCountedExcept : Table Node → ℕ → List Entry → Type 0
AreCountedExcept t id es = AllByRecursion (λ (e : Entry). e.id ≢ id → IsCounted t e) es

-- the entries by id, with this one in place of the one with its id
abbrev pub put_in : Entry → List Entry → List Entry
put_in new [] = new ∷ []
put_in new (e ∷ es) =
    let on : List Entry = put_in new es in
    if e.id == new.id then new ∷ es else (if nat_lt new.id e.id then new ∷ e ∷ es else e ∷ on)

-- what holds of the table, the entries and the counts of units of each forest
pub record IsForest (t : Table Node) (es : List Entry) (us : List Unit) : Type 0 where
  pub kept : IsStored t (rows_of es)
  pub counted : AreCounted t es
  pub units : HaveUnits us t es
  pub given : HaveGiven t (rows_of es)
