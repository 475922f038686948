-- What an event does to a collection, and to the forest.
use Rattle.std.specs.Prelude.{◌≡◌, ℕ, ⊤, Bool, true, false, not, if◌then◌else◌, List, ◌||◌, Option, Some, None, is_some, IfSome}
use Rattle.std.specs.Option.{option_map, option_map_or, option_and_then, option_or}
use Rattle.sm_names.specs.declared.keys.NodeKey.{NodeKey}
use Rattle.sm_names.specs.declared.messages.Call.{Call}
use Rattle.sm_names.specs.declared.messages.Reply.{Reply}
use Rattle.forest_store.specs.declared.change.Change.{Change}
use Rattle.forest_store.specs.declared.node.End.{End}
use Rattle.forest_store.specs.declared.node.Node.{Node}
use Rattle.sm_names.specs.Answers.{answer}
use Rattle.sm_names.specs.Marks.{Called}
use Rattle.sm_names.specs.Trackers.{World, holds}
use Rattle.forest_store.specs.Dropped.{are_others_out}
use Rattle.forest_store.specs.Forest.{Forest, collection_at, node_at}
use Rattle.forest_store.specs.Settling.{Handles, MayChange, Settled, no_key}
use Rattle.buffer_holds.specs.Counts.{Counts, total}
use Rattle.trackers.specs.declared.waiting.Waiting.{Waiting}
use Rattle.trackers.specs.Table.{TrackerTable}
use Rattle.core_state.specs.declared.decision.Decision.{Decision}
use Rattle.core_state.specs.declared.task.EndPlace.{EndPlace}
use Rattle.core_state.specs.declared.task.EventTask.{EventTask}
use Rattle.core_state.specs.Hands.{MovesHandles, takes_handle_room}
use Rattle.core_state.specs.Kinds.{is_releasing, is_sync}
use Rattle.core_state.specs.Reads.{readings_of}
use Rattle.core_state.specs.State.{Client, State}
use Rattle.core_state.specs.Steps.{GainsTracker, Work, clients_by, tracker_by, work_of}

-- the change to this collection, if there is one
abbrev pub work_on : ℕ → Option Change → Option Work
work_on collection change = option_map (λ c. record { collection = collection; change = c }) change

-- what the task changes
abbrev pub work_in : Option EventTask → Option Work
work_in None = None
work_in (Some t) = work_on t.collection t.change

-- the node whose end the event spends: a Close or a Release that was answered Done, or a Release of a node that was gone
abbrev pub spent_by : Call → Reply → Option NodeKey
spent_by (Call.Close key) Reply.Done = Some key
spent_by (Call.Release key) Reply.Done = Some key
spent_by (Call.Release key) (Reply.PeerClosed cause origin) = Some key
spent_by _ _ = None

-- the end of the node, spent
abbrev pub spent_place : Option NodeKey → Option EndPlace
spent_place key = option_map (λ k. record { key = k; end = End.Spent }) key

-- the node whose end the task spends
abbrev pub spent_in : Option EventTask → Option NodeKey
spent_in task = option_and_then (λ (t : EventTask). t.spends) task

-- the end that the task spends is one of its collection
abbrev pub SpendsThere : Forest → EventTask → Type 0
SpendsThere f t = IfSome t.spends (λ key. option_map (λ (n : Node). n.collection) (node_at f key) ≡ Some t.collection)

-- the task changes something or spends an end
abbrev pub DoesSome : EventTask → Type 0
DoesSome t = (is_some t.change || is_some t.spends) ≡ true

-- where the event puts an end, by its task or by what it carries
abbrev pub end_placed : Option EventTask → Option EndPlace → Option EndPlace
end_placed task carried = option_or (spent_place (spent_in task)) carried

-- the task may be done: its change may be made, and the end that it spends is one of its collection
pub record MayDo (f : Forest) (t : EventTask) : Type 0 where
  pub change : IfSome t.change (MayChange f t.collection)
  pub there : SpendsThere f t

-- where a handle was dropped, the task changes nothing but the question what follows in the buffer's collection
abbrev pub AsksOnly : Call → Option EventTask → Type 0
AsksOnly (Call.DropHandle buffer strength) task =
    IfSome task (λ (t : EventTask). IfSome t.change (λ change. (change ≡ Change.Nothing) × (t.collection ≡ buffer.collection)))
AsksOnly _ task = ⊤

-- and no other buffer of the collection is home
abbrev pub OthersStay : Handles → Forest → Call → Option EventTask → Type 0
OthersStay handles f (Call.DropHandle buffer strength) task = IfSome task (λ (t : EventTask). is_some t.change ≡ true →
    option_map_or (are_others_out handles buffer) (collection_at f buffer.collection) false ≡ true)
OthersStay handles f _ task = ⊤

-- the forest once the work is done, with all that it forces
abbrev pub Reworked : ℕ → Handles → Forest → Option Work → Option NodeKey → Forest → Type 0
Reworked pool handles f None key after = (after ≡ f) × (key ≡ None)
Reworked pool handles f (Some work) key after = Settled pool handles f after work.collection work.change key

-- the reply, where a new node has this key
abbrev pub with_key : Reply → Option NodeKey → Reply
with_key (Reply.Token key collection) (Some new) = Reply.Token new collection
with_key reply new = reply

-- the event needs room for a client or a parcel more
abbrev pub takes_room : Call → Reply → Bool
takes_room Call.Join (Reply.Joined made) = true
takes_room (Call.Give key to) Reply.Done = true
takes_room (Call.GiveHandle buffer strength to) Reply.Done = true
takes_room _ _ = false

-- the event may take memory: for handles, a tracker, what it changes in a collection, a client or a parcel
abbrev pub may_take_memory : Call → Reply → Option EventTask → Option Waiting → Bool
may_take_memory call reply task tracking =
    takes_handle_room call reply || (is_some tracking || (is_some (work_in task) || takes_room call reply))

-- where trackers may be due: in the collection that is changed, and where none is, in that of the new tracker, if it is due
abbrev pub looked_in : World → Option ℕ → Option Waiting → Option ℕ
looked_in world (Some id) tracking = Some id
looked_in world None None = None
looked_in world None (Some t) = if holds world t.condition then Some t.collection else None

-- the end that the event carries: a Give puts one into a parcel, and a Collect gets one out
abbrev pub carried_by : ℕ → Call → Reply → Option EndPlace
carried_by client (Call.Give key to) Reply.Done = Some (record { key = key; end = End.InTransit client })
carried_by client Call.Collect (Reply.Collected key kind collection) = Some (record { key = key; end = End.Held client })
carried_by client _ _ = None

-- the call, answered so, changes nothing, but that it is one event more: a refusal, and what only asks or tells
abbrev pub changes_nothing : Call → Reply → Bool
changes_nothing call Reply.Done = is_sync call
changes_nothing call Reply.Empty = true
changes_nothing call Reply.Pending = true
changes_nothing call (Reply.Allocated count size) = true
changes_nothing call (Reply.Refused refusal) = true
changes_nothing call (Reply.PeerClosed cause origin) = not (is_releasing call)
changes_nothing call (Reply.Joined made) = false
changes_nothing call (Reply.Shut waiting) = false
changes_nothing call (Reply.Token key collection) = false
changes_nothing call (Reply.Collected key kind collection) = false
changes_nothing call (Reply.CollectedHandle buffer strength) = false
changes_nothing call (Reply.Taken collection strength set) = false
changes_nothing call (Reply.Tracker id) = false
changes_nothing call (Reply.Misused misuse) = false

-- what a core keeps that an event changes
pub record Parts : Type 0 where
  pub clients : List Client
  pub forest : Forest
  pub holds : Counts
  pub trackers : TrackerTable

-- the call that was answered so took effect, but for the trackers that fire and for what is forgotten; a new node has this key
pub record TakesEffect (pool : ℕ) (old new : Parts) (client : ℕ) (call : Call) (asked : Reply) (task : Option EventTask)
    (tracking : Option Waiting) (reply : Reply) : Type 0 where
  pub key : Option NodeKey
  pub told : reply ≡ with_key asked key
  pub clients : new.clients ≡ clients_by (Called client asked call) old.clients
  pub handles : MovesHandles old.holds new.holds (Called client asked call)
  pub work : Reworked pool (total new.holds) old.forest (work_in task) key new.forest
  pub trackers : GainsTracker old.trackers tracking new.trackers

-- what is decided of a call before anything changes: the answer, except for the key of a new node, the task that the call brings,
-- and the tracker that it attaches
pub record IsDecision (s : State) (client : ℕ) (call : Call) (decision : Decision) : Type 0 where
  pub reply : decision.reply ≡ answer s.limits (readings_of s) client no_key call
  pub work : work_in decision.task ≡ work_of s client call decision.reply
  pub spends : spent_in decision.task ≡ spent_by call decision.reply
  pub there : IfSome decision.task (SpendsThere s.forest)
  pub some : IfSome decision.task DoesSome
  pub tracking : decision.tracking ≡ tracker_by s.forest call decision.reply
