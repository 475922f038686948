-- A collection of which the last forced steps are made. No public clause of `alloc_event` cites this module.
use Rattle.std.specs.Prelude.{◌≡◌, ℕ, ◌≤◌, ◌⊎◌, List, [], Some, None, get_or, map, true}
use Rattle.sm_names.specs.declared.keys.Interval.{Interval}
use Rattle.sm_names.specs.declared.keys.NodeKey.{NodeKey}
use Rattle.buffer_pool.specs.Holdings.{Holdings}
use Rattle.node_table.specs.Table.{Table}
use Rattle.forest_store.specs.declared.change.Change.{Change}
use Rattle.forest_store.specs.declared.entry.Entry.{Entry}
use Rattle.forest_store.specs.declared.node.Node.{Node}
use Rattle.forest_store.specs.declared.unit_counts.Unit.{Unit}
use Rattle.forest_store.specs.Calm.{AreCountedExcept, IsCounted}
use Rattle.forest_store.specs.Counts.{AreUnits, HaveUnits}
use Rattle.forest_store.specs.Decisions.{decided}
use Rattle.forest_store.specs.CollectionRows.{IsStored, SameTable, CollectionRow, collection_in, nodes_with, place_in, row_of, rows_of}
use Rattle.forest_store.specs.Outcomes.{IsSettledIn}
use Rattle.forest_store.specs.Scenes.{is_held_strongly}
use Rattle.forest_store.specs.Settling.{Handles}
use Rattle.forest_steps.specs.MidEvent.{IsBeside, MidEvent, Reaches, is_abandoned_in}

-- no step is left in the collection of the entry at this place, but that its buffers may be abandoned; the others are counted
pub record MayClose (handles : Handles) (t : Table Node) (us : List Unit) (es : List Entry) (at : ℕ) : Type 0 where
  pub entry : Entry
  pub pending : List NodeKey
  pub is : get_or es at entry ≡ entry
  pub place : place_in entry.id es ≡ Some at
  pub under : MidEvent t us (rows_of es) entry [] pending
  pub out : (pending ≡ []) ⊎ (is_abandoned_in handles t entry ≡ true)
  pub others : AreCountedExcept t entry.id es

-- forced steps were made in the collection of the entry until none is left, and it is counted
pub record IsClosed (handles : Handles) (t now : Table Node) (us : List Unit) (ss : List CollectionRow) (old new : Entry) : Type 0 where
  pub kept : IsStored now ss
  pub units : AreUnits us (map (collection_in now) ss)
  pub counted : IsCounted now new
  pub row : row_of new ≡ row_of old
  pub fewer : new.strong ≤ old.strong
  pub none : decided (nodes_with now old.keys.items) old.buffers (is_held_strongly handles old.id old.buffers) ≡ None
  pub leads : (pool : ℕ) (others : List Interval) → Reaches pool handles others (collection_in t (row_of old))
      (collection_in now (row_of old))
  pub beside : IsBeside t now ss old.id

-- what was forced in the collection with this id was made, and the pages of its buffers that are home went back
pub record Closes (handles : Handles) (pool after : Holdings) (old now : Table Node) (before behind : List Entry) (us : List Unit) (id : ℕ)
    : Type 0 where
  pub settled : IsSettledIn handles pool after old now before behind id Change.Nothing
  pub units : HaveUnits us now behind
  pub same : SameTable old now
