-- Readings, calls and replies under other names.
use Rattle.std.specs.Prelude.{◌≡◌, ◌==◌, ℕ, Bool, List, length, map, Option}
use Rattle.std.specs.Option.{option_map}
use Rattle.sm_names.specs.declared.keys.BufferName.{BufferName}
use Rattle.sm_names.specs.declared.keys.NodeKey.{NodeKey}
use Rattle.sm_names.specs.declared.keys.Strength.{Strength}
use Rattle.sm_names.specs.declared.messages.Call.{Call}
use Rattle.sm_names.specs.declared.messages.Parcel.{Parcel}
use Rattle.sm_names.specs.declared.messages.Reply.{Reply}
use Rattle.sm_names.specs.Answers.{OpenEnd, Readings}
use Rattle.buffer_holds.specs.Counts.{of, total}
use Rattle.core_state.specs.State.{Client, State}
use Rattle.alike_cores.specs.Renamed.{CountsAlike, buffer_renamed, collection_renamed, fault_renamed}

-- the same call on what has the new names; clients keep their numbers
abbrev pub call_renamed : (NodeKey → NodeKey) → (ℕ → ℕ) → Call → Call
call_renamed to id Call.Join = Call.Join
call_renamed to id Call.Shut = Call.Shut
call_renamed to id Call.OpenRoot = Call.OpenRoot
call_renamed to id (Call.Duplicate key) = Call.Duplicate (to key)
call_renamed to id (Call.AttachToken key) = Call.AttachToken (to key)
call_renamed to id (Call.Sync key) = Call.Sync (to key)
call_renamed to id (Call.Give key client) = Call.Give (to key) client
call_renamed to id Call.Collect = Call.Collect
call_renamed to id (Call.Bind key) = Call.Bind (to key)
call_renamed to id (Call.SetDispensable key) = Call.SetDispensable (to key)
call_renamed to id (Call.SetWeak key) = Call.SetWeak (to key)
call_renamed to id (Call.SetWeakOk key children) = Call.SetWeakOk (to key) children
call_renamed to id (Call.SetConstraints key demand) = Call.SetConstraints (to key) demand
call_renamed to id (Call.Check key) = Call.Check (to key)
call_renamed to id (Call.Take key) = Call.Take (to key)
call_renamed to id (Call.Release key) = Call.Release (to key)
call_renamed to id (Call.Close key) = Call.Close (to key)
call_renamed to id (Call.DupHandle buffer strength) = Call.DupHandle (buffer_renamed id buffer) strength
call_renamed to id (Call.DropHandle buffer strength) = Call.DropHandle (buffer_renamed id buffer) strength
call_renamed to id (Call.GiveHandle buffer strength client) = Call.GiveHandle (buffer_renamed id buffer) strength client
call_renamed to id (Call.TrackNode key) = Call.TrackNode (to key)
call_renamed to id (Call.TrackLifetime key most) = Call.TrackLifetime (to key) most
call_renamed to id (Call.TrackWeak buffer) = Call.TrackWeak (buffer_renamed id buffer)

-- the same reply under new names; `number` gives new numbers to the clients and trackers that a reply makes
abbrev pub reply_renamed : (NodeKey → NodeKey) → (ℕ → ℕ) → (ℕ → ℕ) → Reply → Reply
reply_renamed to id number (Reply.Joined client) = Reply.Joined (number client)
reply_renamed to id number (Reply.Token key collection) = Reply.Token (to key) (id collection)
reply_renamed to id number (Reply.Collected key kind collection) = Reply.Collected (to key) kind (id collection)
reply_renamed to id number (Reply.CollectedHandle buffer strength) = Reply.CollectedHandle (buffer_renamed id buffer) strength
reply_renamed to id number (Reply.Taken collection strength set) = Reply.Taken (id collection) strength set
reply_renamed to id number (Reply.Tracker tracker) = Reply.Tracker (number tracker)
reply_renamed to id number (Reply.PeerClosed cause origin) = Reply.PeerClosed cause (to origin)
reply_renamed to id number reply = reply

-- what an answer reads of an end, under new names
abbrev pub end_renamed : (NodeKey → NodeKey) → (ℕ → ℕ) → OpenEnd → OpenEnd
end_renamed to id e = record e {
  collection = id e.collection;
  fault = option_map (fault_renamed to) e.fault;
  to_open = map (buffer_renamed id) e.to_open;
}

-- the same parcel under new names
abbrev pub parcel_renamed : (NodeKey → NodeKey) → (ℕ → ℕ) → Parcel → Parcel
parcel_renamed to id (Parcel.End key) = Parcel.End (to key)
parcel_renamed to id (Parcel.Handle buffer strength) = Parcel.Handle (buffer_renamed id buffer) strength

-- all that an answer depends on is alike, but for names, and for the number of events
pub record AreAlike (to : NodeKey → NodeKey) (id : ℕ → ℕ) (r s : Readings) : Type 0 where
  pub joined : (client : ℕ) → s.has_joined client ≡ r.has_joined client
  pub shut : (client : ℕ) → s.is_shut client ≡ r.is_shut client
  pub ends : (key : NodeKey) → s.end_of (to key) ≡ option_map (end_renamed to id) (r.end_of key)
  pub waiting : (client : ℕ) → s.waiting client ≡ map (parcel_renamed to id) (r.waiting client)
  pub open_of : (client : ℕ) (buffer : BufferName) (strength : Strength) →
      s.open_of client (buffer_renamed id buffer) strength ≡ r.open_of client buffer strength
  pub total : (buffer : BufferName) (strength : Strength) → s.open_total (buffer_renamed id buffer) strength ≡ r.open_total buffer strength
  pub nodes : s.kept_nodes ≡ r.kept_nodes
  pub collections : s.kept_collections ≡ r.kept_collections
  pub unfired : s.unfired ≡ r.unfired

-- no two numbers of collections become one
abbrev pub KeepsIds : (ℕ → ℕ) → Type 0
KeepsIds id = (a b : ℕ) → (id a == id b) ≡ (a == b)

-- the client with its parcels under new names
abbrev pub client_renamed : (NodeKey → NodeKey) → (ℕ → ℕ) → Client → Client
client_renamed to id c = record c { waiting = map (parcel_renamed to id) c.waiting }

-- the second state is the first under other names, as far as answers read it
pub record IsRenamed (to : NodeKey → NodeKey) (id : ℕ → ℕ) (s t : State) : Type 0 where
  pub clients : t.clients ≡ map (client_renamed to id) s.clients
  pub collections : t.forest.collections ≡ map (collection_renamed to id) s.forest.collections
  pub open_of : (client : ℕ) (b : BufferName) (strength : Strength) →
      of t.holds client (buffer_renamed id b) strength ≡ of s.holds client b strength
  pub total : CountsAlike id (total s.holds) (total t.holds)
  pub unfired : length t.trackers.unfired ≡ length s.trackers.unfired
