-- The outcome of a change: it was made, or nothing changed. No public clause of `alloc_event` cites this module.
use Rattle.std.specs.Prelude.{◌≡◌, ℕ, Bool, true, false, List, Result, Ok, Err}
use Rattle.buffer_pool.specs.Holdings.{Holdings}
use Rattle.node_table.specs.Table.{Table}
use Rattle.forest_store.specs.declared.change.Change.{Change}
use Rattle.forest_store.specs.declared.entry.Entry.{Entry}
use Rattle.forest_store.specs.declared.node.Node.{Node}
use Rattle.forest_store.specs.declared.unit_counts.Unit.{Unit}
use Rattle.forest_store.specs.Calm.{AreCounted}
use Rattle.forest_store.specs.Counts.{HaveUnits}
use Rattle.forest_store.specs.Forest.{Collection, IsPoolOf}
use Rattle.forest_store.specs.Given.{HaveGiven}
use Rattle.forest_store.specs.CollectionRows.{Finishes, IsStored, SameTable, forest_of, rows_of}
use Rattle.forest_store.specs.Settling.{Handles, MayChange, changed, collection_or_new, no_key}

-- the change may be made to this collection of the forest
pub record IsReady (t : Table Node) (es : List Entry) (us : List Unit) (id : ℕ) (wanted : Change) : Type 0 where
  pub kept : IsStored t (rows_of es)
  pub counted : AreCounted t es
  pub units : HaveUnits us t es
  pub given : HaveGiven t (rows_of es)
  pub change : MayChange (forest_of t (rows_of es)) id wanted

-- the collection once the change is made, before all that it forces
abbrev pub changed_in : Table Node → List Entry → ℕ → Change → Collection
changed_in t es id change = changed change no_key (collection_or_new (forest_of t (rows_of es)) id)

-- whether it was made
abbrev pub was_made : {E : Type 0} → Result Bool E → Bool
was_made (Ok made) = made
was_made (Err e) = false

-- the table and the entries are as they were
pub record IsUnchanged (old now : Table Node) (before behind : List Entry) : Type 0 where
  pub table : now ≡ old
  pub entries : behind ≡ before

-- the change was made with all that it forces
pub record IsSettledIn (handles : Handles) (pool after : Holdings) (old now : Table Node) (before behind : List Entry) (id : ℕ)
    (change : Change) : Type 0 where
  pub finishes : Finishes pool.size handles old (rows_of before) now (rows_of behind) (changed_in old before id change)
  pub kept : IsStored now (rows_of behind)
  pub counted : AreCounted now behind
  pub holds : IsPoolOf after (forest_of now (rows_of behind))

-- so it was, or nothing changed, nor did the pool, whose size is the same
pub record IsOutcomeIn (made : Bool) (handles : Handles) (pool after : Holdings) (old now : Table Node) (before behind : List Entry)
    (id : ℕ) (change : Change) : Type 0 where
  pub settled : made ≡ true → IsSettledIn handles pool after old now before behind id change
  pub unchanged : made ≡ false → IsUnchanged old now before behind
  pub same_pool : made ≡ false → after ≡ pool
  pub same : SameTable old now
  pub size : after.size ≡ pool.size
