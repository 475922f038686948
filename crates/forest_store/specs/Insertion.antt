-- What comes of the birth of a node: it was inserted, or refused, and nothing changed. No public clause of `alloc_event` cites this module.
use Rattle.std.specs.Prelude.{◌≡◌, ℕ, ◌+◌, if◌then◌else◌, List}
use Rattle.std.specs.Option.{option_and_then}
use Rattle.sm_names.specs.declared.keys.NodeKey.{NodeKey}
use Rattle.buffer_pool.specs.Holdings.{Holdings}
use Rattle.node_table.specs.Table.{Table, node_at}
use Rattle.forest_store.specs.declared.change.Change.{Change}
use Rattle.forest_store.specs.declared.entry.Entry.{Entry}
use Rattle.forest_store.specs.declared.insertion.Birth.{Birth}
use Rattle.forest_store.specs.declared.node.Node.{Node}
use Rattle.forest_store.specs.declared.unit_counts.Unit.{Unit}
use Rattle.forest_store.specs.Calm.{AreCounted, IsForest}
use Rattle.forest_store.specs.Forest.{IsPoolOf}
use Rattle.forest_store.specs.Settling.{Handles, collection_or_new, with_birth}
use Rattle.forest_store.specs.CollectionRows.{Bears, Finishes, Gives, born, forest_of, put_row, row_of, rows_of}
use Rattle.forest_store.specs.Still.{row_before, row_with}

-- the change that the birth is
abbrev pub birth_change : Birth → Change
birth_change b = Change.Birth b.parent b.attached b.client b.event

-- the node of the birth, with this key
abbrev pub born_at : Table Node → ℕ → Birth → NodeKey → Node
born_at t id b key = born (option_and_then (node_at t) b.parent) b.attached id b.event b.client key

-- the entry has the key behind its own, and counts the node
pub record IsEntryWith (old new : Entry) (draft : Node) (key : NodeKey) : Type 0 where
  pub row : row_of new ≡ row_with (row_of old) key
  pub strong : new.strong ≡ old.strong + (if draft.weak then 0 else 1)

-- the entry has its keys and its count of strong nodes still
pub record IsEntryWithout (old new : Entry) : Type 0 where
  pub row : row_of new ≡ row_of old
  pub strong : new.strong ≡ old.strong

-- what else is kept of the collection is the same
pub record KeepsNotes (old new : Entry) : Type 0 where
  pub reserved : new.reserved ≡ old.reserved
  pub unkept_known : new.unkept_known ≡ old.unkept_known
  pub unkept : new.unkept.items ≡ old.unkept.items

-- the node is inserted under this key, as the last one of its collection
pub record IsInserted (t now : Table Node) (es behind : List Entry) (id : ℕ) (b : Birth) (key : NodeKey) : Type 0 where
  pub bears : Bears t now (born_at t id b key)
  pub entries : rows_of behind ≡ put_row (row_with (row_before id (rows_of es)) key) (rows_of es)
  pub counted : AreCounted now behind

-- no node is: the table is as it was, and so are the entries but for their room
pub record IsRefused (t now : Table Node) (es behind : List Entry) : Type 0 where
  pub table : now ≡ t
  pub entries : rows_of behind ≡ rows_of es
  pub counted : AreCounted t behind

-- the birth was made, with all that it forces
pub record IsBorn (handles : Handles) (pool after : Holdings) (t now : Table Node) (es behind : List Entry) (us : List Unit) (id : ℕ)
    (b : Birth) (key : NodeKey) : Type 0 where
  pub finishes : Finishes pool.size handles t (rows_of es) now (rows_of behind)
      (with_birth b.parent b.attached b.client b.event key (collection_or_new (forest_of t (rows_of es)) id))
  pub gives : Gives t now key
  pub forest : IsForest now behind us
  pub holds : IsPoolOf after (forest_of now (rows_of behind))
  pub size : after.size ≡ pool.size

-- it was not, and nothing changed
pub record IsUnborn (pool after : Holdings) (t now : Table Node) (es behind : List Entry) (us : List Unit) : Type 0 where
  pub table : now ≡ t
  pub entries : rows_of behind ≡ rows_of es
  pub forest : IsForest now behind us
  pub same_pool : after ≡ pool
