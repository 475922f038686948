-- Which history a core's state shows.
use Rattle.std.specs.Prelude.{ℕ, true, ◌++◌, ◌||◌, ◌&&◌, ◌==◌, not, if◌then◌else◌, List, map, reverse, ◌≡◌, is_none}
use Rattle.std.specs.List.{filter, flat_map, list_any}
use Rattle.sm_names.specs.declared.keys.NodeKey.{NodeKey}
use Rattle.sm_names.specs.Births.{Birth, births, head, was_born}
use Rattle.sm_names.specs.Ends.{binds, spent, holder, in_transit, clients, is_shut, parcels}
use Rattle.sm_names.specs.Handles.{open_of, moving, open_total}
use Rattle.sm_names.specs.Kept.{is_kept_collection}
use Rattle.sm_names.specs.Legality.{IsLegal}
use Rattle.sm_names.specs.Losses.{allocated, fault, gone, released, is_dispensable}
use Rattle.sm_names.specs.Marks.{Entry, Timeline, events}
use Rattle.sm_names.specs.Members.{births_in, constraints}
use Rattle.sm_names.specs.Reading.{is_taking, is_tracking}
use Rattle.sm_names.specs.Handles.{buffers_of}
use Rattle.sm_names.specs.declared.keys.HeldBuffer.{HeldBuffer}
use Rattle.sm_names.specs.declared.keys.Interval.{Interval}
use Rattle.sm_names.specs.Timelines.{held, timeline}
use Rattle.sm_names.specs.declared.tracking.Fired.{Fired}
use Rattle.sm_names.specs.Trackers.{Tracked, tracked, fired}
use Rattle.sm_names.specs.Weakness.{weak, weak_ok, covered, covers_children}
use Rattle.sm_names.specs.Words.{times}
use Rattle.event_laws.specs.Waiting.{unfired_trackers}
use Rattle.trackers.specs.declared.waiting.Waiting.{Waiting}
use Rattle.trackers.specs.Table.{TrackerTable, forgetful, is_untaken}
use Rattle.forest_store.specs.declared.node.End.{End}
use Rattle.forest_store.specs.declared.node.Node.{Node}
use Rattle.forest_store.specs.Forest.{Collection, given}
use Rattle.forest_store.specs.Nodes.{is_unkept}
use Rattle.core_state.specs.State.{Client, HandleCounts, State, counts_of}

-- where the end of the node is
abbrev pub end_after : Timeline → NodeKey → End
end_after marks node =
    let here : End = if in_transit marks node then End.InTransit (holder marks node) else End.Held (holder marks node) in
    if spent marks node then End.Spent else here

-- the node, as the marks make it
abbrev pub node_after : Timeline → Birth → Node
node_after marks b = record {
  key = b.node;
  parent = b.parent;
  attached = b.attached;
  collection = b.collection;
  event = b.event;
  head = head (births marks) b.node;
  allocated = allocated marks b.node;
  gone = gone marks b.node;
  fault = fault marks b.node;
  released = released marks b.node;
  dispensable = list_any (is_dispensable b.node) marks;
  weak = weak marks b.node;
  weak_ok = weak_ok marks b.node;
  covers = list_any (covers_children b.node) marks || covered marks b.node;
  constraints = constraints marks b.node;
  took = list_any (is_taking b.node) marks;
  trackers = times (is_tracking b.node) marks;
  bound = list_any (binds b.node) marks;
  end = end_after marks b.node;
}

-- the nodes of the collection, kept or not, as the marks make them
abbrev pub nodes_after : Timeline → ℕ → List Node
nodes_after marks collection = map (node_after marks) (births_in marks collection)

-- the pages that buffers of the collection hold
abbrev pub held_after : ℕ → Timeline → ℕ → List HeldBuffer
held_after pool marks collection = filter (λ (h : HeldBuffer). h.buffer.collection == collection) (held pool marks)

-- the collection, as the marks make it, without the nodes that are over
abbrev pub collection_after : ℕ → Timeline → ℕ → Collection
collection_after pool marks collection = record {
  id = collection;
  nodes = filter (λ n. not (is_unkept n)) (nodes_after marks collection);
  buffers = buffers_of marks collection;
  held = held_after pool marks collection;
}

-- the ids of the collections that are kept, the earliest first
abbrev pub kept_ids : Timeline → List ℕ
kept_ids marks = map (λ (b : Birth). b.collection)
    (filter (λ (b : Birth). is_none b.parent && is_kept_collection marks b.collection) (reverse (births marks)))

-- the nodes that are kept, as the marks make them: collection by collection, the earliest first, and by birth within each
abbrev pub all_kept_nodes : Timeline → List Node
all_kept_nodes marks = flat_map (λ id. filter (λ n. not (is_unkept n)) (nodes_after marks id)) (kept_ids marks)

-- the pages of the buffers of all kept collections but this one: collection by collection, the earliest first, and by index within each
abbrev pub pages_beside_after : ℕ → Timeline → ℕ → List Interval
pages_beside_after pool marks collection =
    flat_map (λ id. map (λ (h : HeldBuffer). h.pages) (held_after pool marks id)) (filter (λ id. not (id == collection)) (kept_ids marks))

-- the client, as the marks make it
abbrev pub client_after : Timeline → ℕ → Client
client_after marks client = record { id = client; shut = is_shut marks client; waiting = parcels marks client }

-- the counts of handles, as the marks make them
abbrev pub handles_after : Timeline → HandleCounts
handles_after marks = record { of = open_of marks; moving = moving marks; total = open_total marks }

-- a tracker that waits, but for where it is filed
abbrev pub tracked_as : Waiting → Tracked
tracked_as t = record { id = t.id; condition = t.condition }

-- the trackers are those of the marks: those that fired, those that wait, and each that is still to be taken was attached
pub record AreTrackers (t : TrackerTable) (marks : Timeline) : Type 0 where
  pub fired : t.fired ≡ fired marks
  pub waiting : map tracked_as t.unfired ≡ unfired_trackers marks
  pub untaken : (id : ℕ) → is_untaken t.untaken id ≡ true → list_any (λ (u : Tracked). u.id == id) (tracked marks) ≡ true

-- the state is what the marks make of it, where a core forgets the nodes that are over and the collections that are not kept
pub record IsAfter (s : State) (marks : Timeline) : Type 0 where
  pub events : s.events ≡ events marks
  pub clients : s.clients ≡ map (client_after marks) (reverse (clients marks))
  pub collections : s.forest.collections ≡ map (collection_after s.pool marks) (kept_ids marks)
  pub given : (key : NodeKey) → was_born (births marks) key ≡ true → given s.forest key ≡ true
  pub handles : counts_of s.holds ≡ handles_after marks
  pub trackers : AreTrackers s.trackers marks

-- the state shows the history, which is legal
pub record Shows (s : State) (history : List Entry) : Type 0 where
  pub legal : IsLegal s.pool s.limits history
  pub shown : IsAfter s (timeline s.pool history)

-- ---- a core that forgot firings

-- the state with these firings before its own
abbrev pub recalling : List Fired → State → State
recalling gone s = record s { trackers = record s.trackers { fired = gone ++ s.trackers.fired } }

-- the state shows the history, which is legal, but for these firings, the first, which it forgot
abbrev pub ShowsBut : List Fired → State → List Entry → Type 0
ShowsBut gone s history = Shows (recalling gone s) history

-- the state without its trackers that fired
abbrev pub forgetting : State → State
forgetting s = record s { trackers = forgetful s.trackers }
