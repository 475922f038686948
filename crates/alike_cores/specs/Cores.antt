-- Cores that are alike but for names, the numbers of events, and the order of collections and trackers.
use Rattle.std.specs.Prelude.{◌≡◌, ◌≤◌, ℕ, Some, map, true}
use Rattle.sm_names.specs.declared.keys.BufferName.{BufferName}
use Rattle.sm_names.specs.declared.keys.NodeKey.{NodeKey}
use Rattle.sm_names.specs.declared.keys.Strength.{Strength}
use Rattle.sm_names.specs.declared.messages.Call.{Call}
use Rattle.sm_names.specs.declared.messages.Reply.{Reply}
use Rattle.sm_names.specs.declared.tracking.Condition.{Condition}
use Rattle.sm_names.specs.declared.tracking.Fired.{Fired}
use Rattle.sm_names.specs.Answers.{new_key}
use Rattle.sm_names.specs.Timelines.{buffer_of, key_of}
use Rattle.sm_names.specs.Trackers.{Tracked}
use Rattle.buffer_holds.specs.Counts.{of, total}
use Rattle.forest_store.specs.declared.node.Node.{Node}
use Rattle.forest_store.specs.Forest.{Collection, given}
use Rattle.core_state.specs.Shown.{tracked_as}
use Rattle.core_state.specs.State.{State}
use Rattle.alike_cores.specs.Alike.{KeepsIds, client_renamed, reply_renamed}
use Rattle.alike_cores.specs.Renamed.{CountsAlike, KeepsKeys, buffer_renamed, collection_renamed, node_renamed}
use Rattle.alike_cores.specs.Mixed.{Mixed}

-- what a tracker waits for, under new names
abbrev pub condition_renamed : (NodeKey → NodeKey) → (ℕ → ℕ) → Condition → Condition
condition_renamed to id (Condition.Node key) = Condition.Node (to key)
condition_renamed to id (Condition.Lifetime key collection most) = Condition.Lifetime (to key) (id collection) most
condition_renamed to id (Condition.Weak buffer) = Condition.Weak (buffer_renamed id buffer)

-- a tracker under its new number
abbrev pub tracker_renamed : (NodeKey → NodeKey) → (ℕ → ℕ) → (ℕ → ℕ) → Tracked → Tracked
tracker_renamed to id number t = record { id = number t.id; condition = condition_renamed to id t.condition }

-- the node under its own names, without the number of the event of its birth
abbrev pub node_undated : Node → Node
node_undated n = node_renamed (λ key. key) (λ id. id) n

-- the collection under its own names, without the numbers of the events of births
abbrev pub undated : Collection → Collection
undated c = collection_renamed (λ key. key) (λ id. id) c

-- the second core is the first under other names: clients keep their numbers, collections and trackers may stand in another
-- order, and births and firings may be of other events. What a core counts for itself alone, as the keys that it gave, is no part
-- of this
pub record AreAlikeCores (to : NodeKey → NodeKey) (id number : ℕ → ℕ) (s t : State) : Type 0 where
  pub pool : t.pool ≡ s.pool
  pub limits : t.limits ≡ s.limits
  pub clients : t.clients ≡ map (client_renamed to id) s.clients
  pub collections : Mixed (map (collection_renamed to id) s.forest.collections) (map undated t.forest.collections)
  pub open_of : (client : ℕ) (b : BufferName) (strength : Strength) →
      of t.holds client (buffer_renamed id b) strength ≡ of s.holds client b strength
  pub total : CountsAlike id (total s.holds) (total t.holds)
  pub unfired : Mixed (map (λ w. tracker_renamed to id number (tracked_as w)) s.trackers.unfired) (map tracked_as t.trackers.unfired)
  pub fired : Mixed (map (λ (f : Fired). number f.tracker) s.trackers.fired) (map (λ (f : Fired). f.tracker) t.trackers.fired)

-- where both replies tell of a new node, its key becomes that of the other
abbrev pub NamesNew : (NodeKey → NodeKey) → Reply → Reply → Type 0
NamesNew to reply told = (key new : NodeKey) → new_key reply ≡ Some key → new_key told ≡ Some new → to key ≡ new

-- the nodes and collections that the call names are old ones of both cores
pub record NamesOld (to : NodeKey → NodeKey) (id : ℕ → ℕ) (s t : State) (call : Call) : Type 0 where
  pub nodes : (key : NodeKey) → key_of call ≡ Some key → (given s.forest key ≡ true) × (given t.forest (to key) ≡ true)
  pub buffers : (buffer : BufferName) → buffer_of call ≡ Some buffer → (buffer.collection ≤ s.events) × (id buffer.collection ≤ t.events)

-- there are names under which the later cores are alike, and the replies too. They are those of the old ones for all that had a name
-- in both
pub record GoOn (to : NodeKey → NodeKey) (id number : ℕ → ℕ) (s t later again : State) (reply told : Reply) : Type 0 where
  pub keys : NodeKey → NodeKey
  pub ids : ℕ → ℕ
  pub numbers : ℕ → ℕ
  pub keys_apart : KeepsKeys keys
  pub ids_apart : KeepsIds ids
  pub numbers_apart : KeepsIds numbers
  pub old_keys : (key : NodeKey) → given s.forest key ≡ true → given t.forest (to key) ≡ true → keys key ≡ to key
  pub old_ids : (i : ℕ) → i ≤ s.events → id i ≤ t.events → ids i ≡ id i
  pub old_numbers : (i : ℕ) → i ≤ s.events → number i ≤ t.events → numbers i ≡ number i
  pub same_reply : told ≡ reply_renamed keys ids numbers reply
  pub alike : AreAlikeCores keys ids numbers later again
