-- What an event makes of a core's state.
use Rattle.std.specs.Prelude.{ℕ, ◌+◌, ◌-◌, Bool, true, false, ◌||◌, not, nat_le}
use Rattle.std.specs.Prelude.{if◌then◌else◌, List, [], ◌++◌, map, drop, Option, Some, None, ◌≡◌}
use Rattle.std.specs.List.{filter, cons_option, list_all}
use Rattle.std.specs.Option.{option_map, option_and_then}
use Rattle.sm_names.specs.declared.keys.BufferName.{BufferName}
use Rattle.sm_names.specs.declared.keys.NodeKey.{NodeKey}
use Rattle.sm_names.specs.declared.keys.Strength.{Strength}
use Rattle.sm_names.specs.declared.messages.Call.{Call}
use Rattle.sm_names.specs.declared.messages.Reply.{Reply}
use Rattle.sm_names.specs.declared.outcomes.Cause.{Cause}
use Rattle.sm_names.specs.declared.tracking.Condition.{Condition}
use Rattle.sm_names.specs.Answers.{new_key}
use Rattle.sm_names.specs.Ends.{joined_at, shuts, given_at, collects}
use Rattle.sm_names.specs.Handles.{opens, drops, lifts, lands}
use Rattle.sm_names.specs.Marks.{Mark, Called}
use Rattle.sm_names.specs.Sameness.{same_key}
use Rattle.sm_names.specs.Timelines.{key_of}
use Rattle.sm_names.specs.Trackers.{World}
use Rattle.event_laws.specs.ByEvent.{one_if, anyone, only, gains, loses}
use Rattle.buffer_holds.specs.Counts.{total}
use Rattle.trackers.specs.declared.waiting.Waiting.{Waiting}
use Rattle.trackers.specs.Table.{TrackerTable, Attaches, firings, still_waiting}
use Rattle.forest_store.specs.declared.change.Change.{Change}
use Rattle.forest_store.specs.declared.change.Effect.{Effect}
use Rattle.forest_store.specs.declared.node.End.{End}
use Rattle.forest_store.specs.declared.node.Node.{Node}
use Rattle.forest_store.specs.Effects.{effect_of}
use Rattle.forest_store.specs.Forest.{Collection, Forest, SameKeys, collection_at, node_at, with_nodes, on_collections, is_left}
use Rattle.forest_store.specs.Nodes.{with_end, is_unkept}
use Rattle.forest_store.specs.Scenes.{has_tracker_room}
use Rattle.forest_store.specs.Settling.{Handles, Settled}
use Rattle.core_state.specs.declared.task.EndPlace.{EndPlace}
use Rattle.core_state.specs.Reads.{world_in}
use Rattle.core_state.specs.State.{Client, HandleCounts, State, counts_of}

-- ---- nodes and buffers

-- a change, and the collection that it is made to
pub record Work : Type 0 where
  pub collection : ℕ
  pub change : Change

-- the change to the collection of the node with this key
abbrev pub at_node : Forest → NodeKey → (Node → Change) → Option Work
at_node f key change = option_map (λ (n : Node). record { collection = n.collection; change = change n }) (node_at f key)

-- the change to the collection with this id
abbrev pub at_collection : Forest → ℕ → Change → Option Work
at_collection f id change = option_map (λ (c : Collection). record { collection = id; change = change }) (collection_at f id)

-- the birth that the call makes in this collection: no other call makes one
abbrev pub birth_by : State → ℕ → Call → ℕ → Option Work
birth_by s client Call.OpenRoot collection =
    Some (record { collection = collection; change = Change.Birth None false client (s.events + 1) })
birth_by s client (Call.Duplicate above) collection =
    Some (record { collection = collection; change = Change.Birth (Some above) false client (s.events + 1) })
birth_by s client (Call.AttachToken above) collection =
    Some (record { collection = collection; change = Change.Birth (Some above) true client (s.events + 1) })
birth_by s client _ collection = None

-- a loss of the node with this key by this cause, unless it is gone
abbrev pub loss_at : Forest → NodeKey → Cause → Option Work
loss_at f key cause =
    option_and_then
    (λ (n : Node). if n.gone then None else Some (record { collection = n.collection; change = Change.Loss key cause }))
    (node_at f key)

-- the effect of the call, answered so, made on its node
abbrev pub effect_at : Forest → Call → Reply → Option Work
effect_at f call reply =
    option_and_then (λ (e : NodeKey × Effect). at_node f e.0 (λ n. Change.Effect e.0 e.1)) (effect_of call reply)

-- a drop of a handle of this buffer and strength: after the last one the buffer may be kept no longer. Where another one stays
-- open, nothing is changed, since nothing is forced by how many are open
abbrev pub drop_at : State → BufferName → Strength → Option Work
drop_at s buffer strength =
    if nat_le 2 (total s.holds buffer strength) then None else at_collection s.forest buffer.collection Change.Nothing

-- what a call that was answered Done changes: it loses its node, or drops the last handle of a buffer and strength, or has an
-- effect. The other calls ask, move an end or a handle, or open or drop a handle beside another
abbrev pub done_to : State → Call → Option Work
done_to s (Call.Close key) = loss_at s.forest key Cause.Lost
done_to s (Call.DropHandle buffer strength) = drop_at s buffer strength
done_to s call = effect_at s.forest call Reply.Done

-- what the event changes of the nodes and buffers of a collection: the call makes a node, has an effect, or fails its node.
-- Any other call and reply change nothing there
abbrev pub work_of : State → ℕ → Call → Reply → Option Work
work_of s client call (Reply.Token key collection) = birth_by s client call collection
work_of s client call (Reply.Misused misuse) =
    option_and_then (λ key. at_node s.forest key (λ n. Change.Loss key (Cause.Misused misuse))) (key_of call)
work_of s client call Reply.Done = done_to s call
work_of s client call (Reply.Taken collection strength set) = effect_at s.forest call (Reply.Taken collection strength set)
work_of s client call (Reply.Tracker id) = effect_at s.forest call (Reply.Tracker id)
work_of s client call _ = None

-- the change gives no node of these a 65th tracker: only an effect counts one
abbrev pub leaves_tracker_room : Change → List Node → Bool
leaves_tracker_room (Change.Effect key effect) nodes = list_all (has_tracker_room key effect) nodes
leaves_tracker_room (Change.Birth parent attached client event) nodes = true
leaves_tracker_room (Change.Loss origin cause) nodes = true
leaves_tracker_room Change.Nothing nodes = true

-- the forest, once the work is done and all that it forces
abbrev pub Worked : State → Handles → Option Work → Option NodeKey → Forest → Type 0
Worked s handles None key after = after ≡ s.forest
Worked s handles (Some work) key after = Settled s.pool handles s.forest after work.collection work.change key

-- ---- ends

-- where the event puts an end: a Close that was answered Done spends it, or a Release, also of a node that was gone, a Give puts
-- it into a parcel, and a Collect gets it for its caller. Every other event leaves all ends
abbrev pub end_by : ℕ → Call → Reply → Option EndPlace
end_by client (Call.Close key) Reply.Done = Some (record { key = key; end = End.Spent })
end_by client (Call.Release key) Reply.Done = Some (record { key = key; end = End.Spent })
end_by client (Call.Release key) (Reply.PeerClosed cause origin) = Some (record { key = key; end = End.Spent })
end_by client (Call.Give key to) Reply.Done = Some (record { key = key; end = End.InTransit client })
end_by client Call.Collect (Reply.Collected key kind collection) = Some (record { key = key; end = End.Held client })
end_by client _ _ = None

-- where an end is, once that one is put there
abbrev pub place_of : Option EndPlace → NodeKey → End → End
place_of None key end = end
place_of (Some place) key end = if same_key place.key key then place.end else end

-- the forest with that end there
abbrev pub with_place : Option EndPlace → Forest → Forest
with_place None f = f
with_place (Some place) f = on_collections (with_nodes (map (with_end place.key place.end))) f

-- the collections without the nodes that are gone and whose ends are spent, and without those of which nothing is left
abbrev pub without_unkept : List Collection → List Collection
without_unkept cs =
    filter (λ c. not (is_left c)) (map (with_nodes (filter (λ n. not (is_unkept n)))) cs)

-- ---- clients and handles: what the event does to them is told by its mark, as in a history

-- a client that joined just now
abbrev pub new_client : ℕ → Client
new_client id = record { id = id; shut = false; waiting = [] }

-- the client after the mark: it may have been shut, and may have got or given away a parcel
abbrev pub client_by : Mark → Client → Client
client_by mark c = record {
  id = c.id;
  shut = shuts c.id mark || c.shut;
  waiting = drop (one_if (collects c.id mark)) c.waiting ++ cons_option (given_at c.id mark) [];
}

-- the clients after the mark, with the one that it made
abbrev pub clients_by : Mark → List Client → List Client
clients_by mark clients = map (client_by mark) clients ++ map new_client (cons_option (joined_at mark) [])

-- the counts after the mark
abbrev pub handles_by : Mark → HandleCounts → HandleCounts
handles_by mark h = record {
  of = λ client buffer strength.
      (h.of client buffer strength + one_if (gains (only client) buffer strength mark)) - one_if (loses (only client) buffer strength mark);
  moving = λ buffer strength.
      (h.moving buffer strength + one_if (lifts anyone buffer strength mark)) - one_if (lands anyone buffer strength mark);
  total = λ buffer strength.
      (h.total buffer strength + one_if (opens anyone buffer strength mark)) - one_if (drops anyone buffer strength mark);
}

-- ---- trackers

-- the tracker that the event attaches, and the collection that it concerns: no other call makes one
abbrev pub tracker_by : Forest → Call → Reply → Option Waiting
tracker_by f (Call.TrackNode key) (Reply.Tracker id) =
    option_map (λ (n : Node). record { id = id; collection = n.collection; condition = Condition.Node key }) (node_at f key)
tracker_by f (Call.TrackLifetime key most) (Reply.Tracker id) =
    option_map (λ (n : Node). record { id = id; collection = n.collection; condition = Condition.Lifetime key n.collection most })
    (node_at f key)
tracker_by f (Call.TrackWeak buffer) (Reply.Tracker id) =
    Some (record { id = id; collection = buffer.collection; condition = Condition.Weak buffer })
tracker_by f _ _ = None

-- the trackers with one more, if one is made
abbrev pub GainsTracker : TrackerTable → Option Waiting → TrackerTable → Type 0
GainsTracker old None new = new ≡ old
GainsTracker old (Some tracker) new = Attaches old new tracker

-- the trackers, once those that are due in this world fired at this event
abbrev pub swept : World → ℕ → TrackerTable → TrackerTable
swept world event t = record t { unfired = still_waiting world t.unfired; fired = t.fired ++ firings world event t.unfired }

-- ---- the event

-- the state after one more event: handles are opened, dropped or moved, the work and all its forced steps are made, an end
-- gets a new holder, the trackers that are due then fire, and the nodes that are over are forgotten
pub record Follows (old new : State) (client : ℕ) (call : Call) (reply : Reply) : Type 0 where
  pub pool : new.pool ≡ old.pool
  pub limits : new.limits ≡ old.limits
  pub events : new.events ≡ old.events + 1
  pub clients : new.clients ≡ clients_by (Called client reply call) old.clients
  pub handles : counts_of new.holds ≡ handles_by (Called client reply call) (counts_of old.holds)
  pub worked : Forest
  pub work : Worked old (total new.holds) (work_of old client call reply) (new_key reply) worked
  pub collections : new.forest.collections ≡ without_unkept (with_place (end_by client call reply) worked).collections
  pub keys : SameKeys worked new.forest
  pub attached : TrackerTable
  pub gains : GainsTracker old.trackers (tracker_by old.forest call reply) attached
  pub trackers : new.trackers ≡ swept (world_in worked (total new.holds)) new.events attached
