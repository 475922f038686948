-- A store as a change finds it and leaves it. No public clause of `alloc_event` cites this module.
use Rattle.std.specs.Prelude.{◌≡◌, ◌≤◌, ℕ, Bool, true, List, [], Option, Some, None, get_or, vec_capacity}
use Rattle.sm_names.specs.declared.keys.NodeKey.{NodeKey}
use Rattle.sm_names.specs.declared.outcomes.Fault.{Fault}
use Rattle.buffer_pool.specs.Holdings.{Holdings}
use Rattle.node_table.specs.Table.{Table, table_len}
use Rattle.forest_store.specs.declared.change.Change.{Change}
use Rattle.forest_store.specs.declared.change.Effect.{Effect}
use Rattle.forest_store.specs.declared.entry.Entry.{Entry}
use Rattle.forest_steps.specs.declared.initial_allocation.AllocationOutcome.{AllocationOutcome}
use Rattle.forest_steps.specs.declared.scratch.Scratch.{Scratch}
use Rattle.forest_store.specs.declared.insertion.Birth.{Birth}
use Rattle.forest_store.specs.declared.node.Node.{Node}
use Rattle.forest_store.specs.declared.store.NodeStore.{NodeStore}
use Rattle.forest_store.specs.declared.store.Store.{Store}
use Rattle.forest_store.specs.declared.unit_counts.Unit.{Unit}
use Rattle.forest_store.specs.Counts.{HaveUnits}
use Rattle.forest_store.specs.Decisions.{waiting}
use Rattle.forest_steps.specs.EventEnd.{Closes, IsClosed, MayClose}
use Rattle.forest_store.specs.Insertion.{IsBorn, IsUnborn}
use Rattle.forest_steps.specs.InitialAllocation.{IsRooted}
use Rattle.forest_steps.specs.MidEvent.{AfterLoss, AfterPropagation, AfterRemoval, AfterSteps}
use Rattle.forest_steps.specs.MidEvent.{EffectMade, MidEvent, PropagatedFrom, are_held_except}
use Rattle.forest_store.specs.Nodes.{after_effect}
use Rattle.forest_store.specs.Outcomes.{IsOutcomeIn, IsReady}
use Rattle.forest_store.specs.Settling.{Handles}
use Rattle.forest_store.specs.CollectionRows.{CollectionRow, nodes_with, place_in}
use Rattle.forest_store.specs.Stores.{AreNamed, nodes_in}

-- ---- of the table, the entries and the units

-- the change may be made to the collection that stands at this place
pub record IsReadyAt (t : Table Node) (es : List Entry) (us : List Unit) (at : ℕ) (change : Change) : Type 0 where
  pub id : ℕ
  pub place : place_in id es ≡ Some at
  pub ready : IsReady t es us id change

-- it was made to that collection with all that it forces, or nothing changed, nor did the pool, and the units are counted
pub record IsOutcomeAt (made : Bool) (handles : Handles) (pool after : Holdings) (t now : Table Node) (es behind : List Entry)
    (us : List Unit) (at : ℕ) (change : Change) : Type 0 where
  pub outcome : (id : ℕ) → place_in id es ≡ Some at → IsOutcomeIn made handles pool after t now es behind id change
  pub units : HaveUnits us now behind

-- the same of the collection with this id
pub record IsOutcomeOf (made : Bool) (handles : Handles) (pool after : Holdings) (t now : Table Node) (es behind : List Entry)
    (us : List Unit) (id : ℕ) (change : Change) : Type 0 where
  pub outcome : IsOutcomeIn made handles pool after t now es behind id change
  pub units : HaveUnits us now behind

-- ---- of stores

-- the change may be made to the collection at this place
abbrev pub ReadyAt : Store → ℕ → Change → Type 0
ReadyAt s at change = IsReadyAt s.nodes.table s.entries.items s.nodes.units.items at change

-- or to the one with this id
abbrev pub ReadyFor : Store → ℕ → Change → Type 0
ReadyFor s id change = IsReady s.nodes.table s.entries.items s.nodes.units.items id change

-- the outcome of the change to the collection at that place
abbrev pub OutcomeAt : Bool → Handles → Holdings → Holdings → Store → Store → ℕ → Change → Type 0
OutcomeAt made handles pool after old new at change =
    IsOutcomeAt made handles pool after old.nodes.table new.nodes.table old.entries.items new.entries.items new.nodes.units.items at change

-- the outcome of the change to the collection with this id
abbrev pub OutcomeOf : Bool → Handles → Holdings → Holdings → Store → Store → ℕ → Change → Type 0
OutcomeOf made handles pool after old new id change =
    IsOutcomeOf made handles pool after old.nodes.table new.nodes.table old.entries.items new.entries.items new.nodes.units.items id change

-- once the effect is made on the node with this key, the root's unit of the collection at this place does not wait for its
-- buffers, if something holds each unit
abbrev pub WaitsNot : Store → ℕ → NodeKey → Effect → Type 0
WaitsNot s at key effect = (e : Entry) → e ≡ get_or s.entries.items at e →
    are_held_except [] (after_effect key effect (nodes_with s.nodes.table e.keys.items)) ≡ true →
    waiting (after_effect key effect (nodes_with s.nodes.table e.keys.items)) ≡ None

-- no step is left in the collection at this place, but that its buffers may be abandoned
abbrev pub MayFinish : Handles → Store → ℕ → Type 0
MayFinish handles s at = MayClose handles s.nodes.table s.nodes.units.items s.entries.items at

-- what was forced at last in the collection with this id was made
abbrev pub FinishedOf : Handles → Holdings → Holdings → Store → Store → ℕ → Type 0
FinishedOf handles pool after old new id =
    Closes handles pool after old.nodes.table new.nodes.table old.entries.items new.entries.items new.nodes.units.items id

-- ---- births

-- the node is born under this key, and all that this forces was made
abbrev pub BornIn : Handles → Holdings → Holdings → Store → Store → ℕ → Birth → NodeKey → Type 0
BornIn handles pool after old new id b key =
    IsBorn handles pool after old.nodes.table new.nodes.table old.entries.items new.entries.items new.nodes.units.items id b key

-- no node is, and nothing changed
abbrev pub UnbornIn : Holdings → Holdings → Store → Store → Type 0
UnbornIn pool after old new =
    IsUnborn pool after old.nodes.table new.nodes.table old.entries.items new.entries.items new.nodes.units.items

-- ---- room, and rows

-- the lists of removed nodes and of pending units have room for as many as there are nodes
pub record HasRoom (s : NodeStore) (room : Scratch) : Type 0 where
  pub going : table_len s.table ≤ vec_capacity room.removed
  pub turns : table_len s.table ≤ vec_capacity room.pending

-- there is as much room in these lists as there was
pub record KeepsRoom (old new : Scratch) : Type 0 where
  pub going : vec_capacity old.removed ≤ vec_capacity new.removed
  pub turns : vec_capacity old.pending ≤ vec_capacity new.pending

-- each node stands under its key, and there are as many rows as there were
pub record KeepsRows (old new : NodeStore) : Type 0 where
  pub named : AreNamed new.table
  pub len : table_len new.table ≡ table_len old.table

-- ---- nodes with the counts of their units

-- the collection is under way
abbrev pub MidEventIn : NodeStore → List CollectionRow → Entry → List NodeKey → List NodeKey → Type 0
MidEventIn s ss e unheld pending = MidEvent s.table s.units.items ss e unheld pending

-- the effect was made, and nothing else
abbrev pub EffectMadeIn : NodeStore → NodeStore → List CollectionRow → Entry → Entry → NodeKey → Effect → NodeKey → Type 0
EffectMadeIn old new ss e now key effect head = EffectMade old.table new.table new.units.items ss e now key effect head

-- what is lost or ends is gone
abbrev pub AfterRemovalIn : NodeStore → NodeStore → List CollectionRow → Entry → Entry → NodeKey → Option Fault → Option NodeKey →
    List NodeKey → List NodeKey → Type 0
AfterRemovalIn old new ss e now origin fault above unheld pending =
    AfterRemoval old.table new.table new.units.items ss e now origin fault above unheld pending

-- what is lost by the fault is gone, and what is forced to end then
abbrev pub AfterLossIn : Handles → NodeStore → NodeStore → List CollectionRow → Entry → Entry → Fault → List NodeKey → Type 0
AfterLossIn handles old new ss e now fault pending = AfterLoss handles old.table new.table new.units.items ss e now fault pending

-- forced steps were made
abbrev pub AfterStepsIn : Handles → NodeStore → NodeStore → List CollectionRow → Entry → Entry → List NodeKey → List NodeKey → Type 0
AfterStepsIn handles old new ss e now unheld pending = AfterSteps handles old.table new.table new.units.items ss e now unheld pending

-- until none is left, but that the buffers may be abandoned
abbrev pub AfterPropagationIn : Handles → NodeStore → NodeStore → List CollectionRow → Entry → Entry → Type 0
AfterPropagationIn handles old new ss e now = AfterPropagation handles old.table new.table new.units.items ss e now

-- the same, from the collection with these nodes
abbrev pub PropagatedIn : Handles → List Node → NodeStore → NodeStore → List CollectionRow → Entry → Entry → Type 0
PropagatedIn handles between old new ss e now = PropagatedFrom handles between old.table new.table new.units.items ss e now

-- until none is left
abbrev pub IsClosedIn : Handles → NodeStore → NodeStore → List CollectionRow → Entry → Entry → Type 0
IsClosedIn handles old new ss e now = IsClosed handles old.table new.table new.units.items ss e now

-- the root's unit was allocated, or lost
abbrev pub IsRootedIn : Handles → NodeStore → NodeStore → List CollectionRow → Entry → Entry → NodeKey → AllocationOutcome → Type 0
IsRootedIn handles old new ss e now head outcome = IsRooted handles old.table new.table new.units.items ss e now head outcome

-- once the effect is made on the node with this key, the root's unit does not wait for its buffers, if something holds each unit
abbrev pub IsRootAsleep : NodeStore → Entry → NodeKey → Effect → Type 0
IsRootAsleep s e key effect = are_held_except [] (after_effect key effect (nodes_in s e)) ≡ true →
    waiting (after_effect key effect (nodes_in s e)) ≡ None
