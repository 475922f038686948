-- The collection that an event concerns, before it and after it, and what became of its buffers.
use Rattle.std.specs.Prelude.{ℕ, ◌≡◌, ◌<◌, Bool, false, ◌&&◌, ◌||◌, ◌==◌, not, nat_lt, if◌then◌else◌, List, [], ◌∷◌, Option, Some, None}
use Rattle.std.specs.Int.{bit_at}
use Rattle.std.specs.List.{list_any}
use Rattle.std.specs.Option.{option_and_then, option_map, option_map_or}
use Rattle.sm_names.specs.declared.keys.HeldBuffer.{HeldBuffer}
use Rattle.sm_names.specs.declared.keys.Strength.{Strength}
use Rattle.sm_names.specs.declared.messages.Call.{Call}
use Rattle.sm_names.specs.declared.messages.Reply.{Reply}
use Rattle.sm_names.specs.declared.outcomes.Buffers.{Buffers}
use Rattle.buffer_holds.specs.Counts.{Counts, of, total}
use Rattle.forest_store.specs.declared.node.Node.{Node}
use Rattle.forest_store.specs.declared.snapshot.Snapshot.{Snapshot}
use Rattle.forest_store.specs.Forest.{collection_at}
use Rattle.forest_store.specs.Snapshots.{collection_of}
use Rattle.forced_marks.specs.declared.moment.Moment.{Moment}
use Rattle.forced_marks.specs.Marks.{forces_nothing}
use Rattle.core_state.specs.Reads.{is_live_in}
use Rattle.core_state.specs.State.{State}
use Rattle.core_state.specs.Steps.{Work, work_of}
use Rattle.event_facts.specs.declared.before.Before.{Before}
use Rattle.event_facts.specs.declared.pages.TheConstants.{SET_BITS}
use Rattle.event_facts.specs.Facts.{is_keeper}

-- ---- which collection

-- the collection of the handle that the call drops, if the client has such a handle open
abbrev pub dropped_on : Counts → ℕ → Call → Option ℕ
dropped_on holds client (Call.DropHandle buffer strength) = if nat_lt 0 (of holds client buffer strength) then Some buffer.collection
    else None
dropped_on holds client _ = None

-- the collection of which a call with this reply changes a node, unless the change forces nothing: by such a one no live node
-- leaves, and no buffer loses a keeper
abbrev pub changed_on : State → ℕ → Call → Reply → Option ℕ
changed_on s client call reply =
    option_and_then (λ (w : Work). if forces_nothing w.change then None else Some w.collection) (work_of s client call reply)

-- the collection that an event concerns: of the handle that is dropped, or else of the node by whose change something may be forced
abbrev pub concerned_by : State → ℕ → Call → Reply → Option ℕ
concerned_by s client call reply = option_map_or Some (dropped_on s.holds client call) (changed_on s client call reply)

-- the copy is of the collection with this id, as it stands
abbrev pub IsSnapshot : State → Option ℕ → Option Before → Type 0
IsSnapshot s id before = option_map (λ (b : Before). collection_of b.copied) before ≡ option_and_then (collection_at s.forest) id

-- the copy after the event is of the same collection as the copy before it
abbrev pub IsCopiedAfter : State → Option Before → Option Snapshot → Type 0
IsCopiedAfter s before after =
    option_map collection_of after ≡ option_and_then (λ (b : Before). collection_at s.forest b.copied.id) before

-- ---- buffers that nothing strong keeps

-- the buffer was given, no node of its collection is strong and live, and no strong handle on it is open or in a parcel
abbrev pub is_doomed_in : Counts → ℕ → List Node → Option Buffers → ℕ → Bool
is_doomed_in holds collection nodes given index =
    option_map_or (λ (b : Buffers). nat_lt index b.count) given false
    && (not (list_any is_keeper nodes)
    && total holds (record { collection = collection; index = index }) Strength.Strong == 0)

-- bit i of the set is one exactly for the buffers that the test holds of
abbrev pub IsSetOf : (ℕ → Bool) → ℕ → Type 0
IsSetOf test set = (index : ℕ) → index < SET_BITS → bit_at set index ≡ (if test index then 1 else 0)

-- ---- the collection after the event

-- the collection after a mark that these moments follow: before the next mark, or else after the event
abbrev pub scene_after : List Moment → Option Snapshot → Option Snapshot
scene_after (m ∷ _) after = Some m.before
scene_after [] after = after

-- what the collection was given: by the copy after the event, or else by the one before it
abbrev pub given_in : Option Snapshot → Option Before → Option Buffers
given_in after before =
    option_map_or (λ (a : Snapshot). a.buffers) after (option_map_or (λ (b : Before). b.copied.buffers) before None)

-- the kept nodes after the event
abbrev pub snapshot_nodes : Option Snapshot → List Node
snapshot_nodes after = option_map_or (λ (a : Snapshot). a.nodes.items) after []

-- the buffers with pages after the event
abbrev pub snapshot_held : Option Snapshot → List HeldBuffer
snapshot_held after = option_map_or (λ (a : Snapshot). a.held.items) after []

-- nothing strong keeps the buffer after the event, and something did before
abbrev pub is_newly_doomed : Counts → Option Snapshot → Option Before → ℕ → Bool
is_newly_doomed holds after before index =
    option_map_or (λ (b : Before). is_doomed_in holds b.copied.id (snapshot_nodes after) (given_in after before) index
    && not (bit_at b.doomed index == 1)) before false

-- the node was live, and is not any more
abbrev pub has_left : State → Node → Bool
has_left s n = not (n.gone || n.released) && not (is_live_in s n.key)

-- a node of the collection was live before the event, and is not any more
abbrev pub some_left_in : State → Option Before → Bool
some_left_in s before = option_map_or (λ (b : Before). list_any (has_left s) b.copied.nodes.items) before false
