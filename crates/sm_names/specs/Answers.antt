-- The order of answers and the answer table, over all that an answer depends on.
use Rattle.std.specs.Prelude.{ℕ, ◌+◌, ◌^◌, Bool, true, false, ◌||◌, ◌&&◌, ◌==◌, nat_le, not, if◌then◌else◌, List, [], ◌∷◌, length, Option, Some, None, ◌≡◌}
use Rattle.std.specs.List.{list_any, sum_by}
use Rattle.std.specs.Option.{option_map_or, option_map, option_and_then, unwrap_or}
use Rattle.sm_names.specs.declared.keys.NodeKey.{NodeKey}
use Rattle.sm_names.specs.declared.keys.BufferName.{BufferName}
use Rattle.sm_names.specs.declared.keys.Strength.{Strength}
use Rattle.sm_names.specs.declared.keys.Kind.{Kind}
use Rattle.sm_names.specs.declared.messages.Call.{Call}
use Rattle.sm_names.specs.declared.messages.Parcel.{Parcel}
use Rattle.sm_names.specs.declared.messages.Reply.{Reply}
use Rattle.sm_names.specs.declared.outcomes.Buffers.{Buffers}
use Rattle.sm_names.specs.declared.outcomes.Fault.{Fault}
use Rattle.sm_names.specs.declared.outcomes.Misuse.{Misuse}
use Rattle.sm_names.specs.declared.outcomes.Refusal.{Refusal}
use Rattle.sm_names.specs.declared.rules.TheConstants.{MAX_NODE_TRACKERS}
use Rattle.sm_names.specs.Bounds.{Bound}
use Rattle.sm_names.specs.Sameness.{same_kind}
use Rattle.sm_names.specs.Timelines.{key_of}
use Rattle.sm_names.specs.Words.{first_some, when}

-- an end that is not spent
pub record OpenEnd : Type 0 where
  pub holder : ℕ
  pub in_transit : Bool
  pub kind : Kind
  pub collection : ℕ
  -- what failed its node
  pub fault : Option Fault
  pub constrained : Bool
  pub weak : Bool
  pub weak_ok : Bool
  -- whether a Take on it was answered Taken
  pub took : Bool
  pub node_trackers : ℕ
  -- what its unit was allocated against, and which of those buffers are not doomed
  pub buffers : Option Buffers
  pub to_open : List BufferName

-- all that an answer depends on
pub record Readings : Type 0 where
  pub events : ℕ
  pub has_joined : ℕ → Bool
  pub is_shut : ℕ → Bool
  -- the node's end, unless it is spent or there is no such node
  pub end_of : NodeKey → Option OpenEnd
  -- the parcels that wait for a client, the first one first
  pub waiting : ℕ → List Parcel
  pub open_of : ℕ → BufferName → Strength → ℕ
  -- those of all clients, and those in parcels
  pub open_total : BufferName → Strength → ℕ
  pub was_given : NodeKey → Bool
  pub kept_nodes : ℕ
  pub kept_collections : ℕ
  pub unfired : ℕ

-- ---- the words of the table

-- this refusal, if the test holds
abbrev pub refused_if : Bool → Refusal → Option Reply
refused_if b refusal = when b (Reply.Refused refusal)

-- this misuse, if the test holds
abbrev pub misused_if : Bool → Misuse → Option Reply
misused_if b misuse = when b (Reply.Misused misuse)

-- the other client that the call names: only the two gifts name one
abbrev pub receiver_of : Call → Option ℕ
receiver_of (Call.Give key to) = Some to
receiver_of (Call.GiveHandle buffer strength to) = Some to
receiver_of _ = None

-- the call makes an end or a tracker for its caller: a shut client may make any other call
abbrev pub acquires : Call → Bool
acquires Call.OpenRoot = true
acquires (Call.Duplicate key) = true
acquires (Call.AttachToken key) = true
acquires (Call.TrackNode key) = true
acquires (Call.TrackLifetime key most) = true
acquires (Call.TrackWeak buffer) = true
acquires _ = false

-- the only kind of end on which the call is made: any other call on an end is made on either kind
abbrev pub kind_for : Call → Option Kind
kind_for (Call.Duplicate key) = Some Kind.Token
kind_for (Call.AttachToken key) = Some Kind.Collection
kind_for (Call.Bind key) = Some Kind.Token
kind_for (Call.SetDispensable key) = Some Kind.Token
kind_for (Call.SetConstraints key demand) = Some Kind.Collection
kind_for (Call.Check key) = Some Kind.Collection
kind_for (Call.Take key) = Some Kind.Collection
kind_for (Call.TrackLifetime key most) = Some Kind.Collection
kind_for _ = None

-- the call makes a node, as no other does
abbrev pub makes_node : Call → Bool
makes_node Call.OpenRoot = true
makes_node (Call.Duplicate key) = true
makes_node (Call.AttachToken key) = true
makes_node _ = false

-- the call makes a collection, as no other does
abbrev pub makes_collection : Call → Bool
makes_collection Call.OpenRoot = true
makes_collection _ = false

-- the call makes a tracker, as no other does
abbrev pub makes_tracker : Call → Bool
makes_tracker (Call.TrackNode key) = true
makes_tracker (Call.TrackLifetime key most) = true
makes_tracker (Call.TrackWeak buffer) = true
makes_tracker _ = false

-- the strength of handles taken through a node that is weak or not
abbrev pub strength_of : Bool → Strength
strength_of weak = if weak then Strength.Weak else Strength.Strong

-- the buffers as a set: bit i stands for buffer i
abbrev pub set_of : List BufferName → ℕ
set_of buffers = sum_by (λ (b : BufferName). 2 ^ b.index) buffers

-- ---- the order of answers

-- NoSuchClient, unless a Join is made as client 0, or any other call by a client that joined and
-- for a receiver that joined
abbrev pub unknown_client : Readings → ℕ → Call → Option Reply
unknown_client r client Call.Join = refused_if (not (client == 0)) Refusal.NoSuchClient
unknown_client r client call =
    refused_if
    (not (r.has_joined client)
    || option_map_or (λ to. not (r.has_joined to)) (receiver_of call) false)
    Refusal.NoSuchClient

-- ClientShut: nothing is given to a shut client, and it acquires nothing
abbrev pub shut_client : Readings → ℕ → Call → Option Reply
shut_client r client call =
    refused_if
    ((acquires call && r.is_shut client) || option_map_or r.is_shut (receiver_of call) false)
    Refusal.ClientShut

-- another client holds the end, and it is in no parcel
abbrev pub is_anothers : ℕ → OpenEnd → Bool
is_anothers client e = not (e.holder == client) && not e.in_transit

-- no end has this key, or the end is spent, or another client holds it
abbrev pub no_end : Readings → ℕ → Call → Option Reply
no_end r client call = option_and_then
    (λ key. refused_if (option_map_or (is_anothers client) (r.end_of key) true) Refusal.NoSuchEnd)
    (key_of call)

-- the end that the call names
abbrev pub end_named : Readings → Call → Option OpenEnd
end_named r call = option_and_then r.end_of (key_of call)

-- the end is in a parcel, whoever asks
abbrev pub end_in_transit : Readings → Call → Option Reply
end_in_transit r call =
    option_and_then (λ e. refused_if e.in_transit Refusal.InTransit) (end_named r call)

-- Close is answered Done, whether the node is gone or not
abbrev pub closing : Call → Option Reply
closing (Call.Close key) = Some Reply.Done
closing _ = None

-- the node is gone: the reply says why and where it failed
abbrev pub peer_closed : Readings → Call → Option Reply
peer_closed r call = option_and_then
    (λ e. option_map (λ (f : Fault). Reply.PeerClosed f.cause f.origin) e.fault)
    (end_named r call)

-- the call is for an end of the other kind
abbrev pub wrong_kind : Readings → Call → Option Reply
wrong_kind r call = option_and_then
    (λ e. refused_if
    (option_map_or (λ k. not (same_kind e.kind k)) (kind_for call) false) Refusal.WrongKind)
    (end_named r call)

-- the misuse that the call is on this end: no other call can be one
abbrev pub misuse_of : OpenEnd → Call → Option Reply
misuse_of e (Call.SetConstraints key demand) = misused_if e.constrained Misuse.SecondConstraints
misuse_of e (Call.SetWeak key) = misused_if e.constrained Misuse.LateWeak
misuse_of e (Call.SetWeakOk key children) = misused_if e.took Misuse.LateWeakOk
misuse_of e (Call.Take key) = misused_if (e.weak && not e.weak_ok) Misuse.WeakNotOk
misuse_of e (Call.TrackNode key) =
    misused_if (nat_le MAX_NODE_TRACKERS e.node_trackers) Misuse.TooManyNodeTrackers
misuse_of e _ = None

-- the misuse that the call is on the end that it names
abbrev pub misuse : Readings → Call → Option Reply
misuse r call = option_and_then (λ e. misuse_of e call) (end_named r call)

-- refused, if the number of handles is 0
abbrev pub has_none : ℕ → Option Reply
has_none count = refused_if (count == 0) Refusal.NoSuchHandle

-- the caller has no such handle open: no other call is made on a handle
abbrev pub no_handle : Readings → ℕ → Call → Option Reply
no_handle r client (Call.DupHandle buffer strength) = has_none (r.open_of client buffer strength)
no_handle r client (Call.DropHandle buffer strength) = has_none (r.open_of client buffer strength)
no_handle r client (Call.GiveHandle buffer strength to) =
    has_none (r.open_of client buffer strength)
no_handle r client (Call.TrackWeak buffer) = has_none (r.open_of client buffer Strength.Weak)
no_handle r client _ = None

-- the number of open handles of the buffer and strength is at its limit
abbrev pub is_at_limit : Bound → Readings → Strength → BufferName → Bool
is_at_limit limits r strength buffer = nat_le limits.handles (r.open_total buffer strength)

-- the call would open more handles than the limit allows: no other call opens any
abbrev pub too_many_handles : Bound → Readings → Call → Bool
too_many_handles limits r (Call.DupHandle buffer strength) = is_at_limit limits r strength buffer
too_many_handles limits r (Call.Take key) =
    option_map_or (λ e. list_any (is_at_limit limits r (strength_of e.weak)) e.to_open)
    (r.end_of key) false
too_many_handles limits r _ = false

-- the limits, in the order of their numbers
abbrev pub limits_met : Bound → Readings → Call → List (Option Reply)
limits_met limits r call =
    refused_if (makes_node call && nat_le limits.nodes r.kept_nodes) Refusal.TooManyNodes
    ∷ refused_if (makes_collection call && nat_le limits.collections r.kept_collections)
    Refusal.TooManyCollections
    ∷ refused_if (makes_tracker call && nat_le limits.trackers r.unfired) Refusal.TrackersFull
    ∷ refused_if (too_many_handles limits r call) Refusal.TooManyHandles
    ∷ []

-- the reply that says what the first parcel has
abbrev pub collected : Readings → List Parcel → Reply
collected r [] = Reply.Empty
collected r (Parcel.Handle buffer strength ∷ more) = Reply.CollectedHandle buffer strength
collected r (Parcel.End key ∷ more) =
    option_map_or (λ e. Reply.Collected key e.kind e.collection) (r.end_of key) Reply.Empty

-- the reply that is made from the end with this key
abbrev pub of_end : Readings → NodeKey → (OpenEnd → Reply) → Reply
of_end r key answer = option_map_or answer (r.end_of key) (Reply.Refused Refusal.NoSuchEnd)

-- the answer of a call that takes effect. A new node gets this key. The calls that are not listed
-- set, give, bind, release, duplicate, drop or sync, and are answered Done
abbrev pub effect : Readings → ℕ → NodeKey → Call → Reply
effect r client new Call.Join = Reply.Joined (r.events + 1)
effect r client new Call.Shut = Reply.Shut (length (r.waiting client))
effect r client new Call.OpenRoot = Reply.Token new (r.events + 1)
effect r client new (Call.Duplicate key) = of_end r key (λ e. Reply.Token new e.collection)
effect r client new (Call.AttachToken key) = of_end r key (λ e. Reply.Token new e.collection)
effect r client new Call.Collect = collected r (r.waiting client)
effect r client new (Call.Check key) =
    of_end r key
    (λ e. option_map_or (λ (b : Buffers). Reply.Allocated b.count b.size) e.buffers Reply.Pending)
effect r client new (Call.Take key) =
    of_end r key (λ e.
    option_map_or
    (λ b. Reply.Taken e.collection (strength_of e.weak) (set_of e.to_open)) e.buffers Reply.Pending)
effect r client new (Call.TrackNode key) = Reply.Tracker (r.events + 1)
effect r client new (Call.TrackLifetime key most) = Reply.Tracker (r.events + 1)
effect r client new (Call.TrackWeak buffer) = Reply.Tracker (r.events + 1)
effect r client new _ = Reply.Done

-- the answers that come before that of the effect, in their order
abbrev pub answers_first : Bound → Readings → ℕ → Call → List (Option Reply)
answers_first limits r client call =
    unknown_client r client call
    ∷ shut_client r client call
    ∷ no_end r client call
    ∷ end_in_transit r call
    ∷ closing call
    ∷ peer_closed r call
    ∷ wrong_kind r call
    ∷ misuse r call
    ∷ no_handle r client call
    ∷ limits_met limits r call

-- the answer: the first of those that applies, or else that of the effect
abbrev pub answer : Bound → Readings → ℕ → NodeKey → Call → Reply
answer limits r client new call =
    unwrap_or (first_some (answers_first limits r client call)) (effect r client new call)

-- the key of the new node in the reply: only Token has one
abbrev pub new_key : Reply → Option NodeKey
new_key (Reply.Token key collection) = Some key
new_key _ = None

-- the key of the new node in the reply, or some key if there is none
abbrev pub key_told : Reply → NodeKey
key_told reply = option_map_or (λ key. key) (new_key reply) (record { slot = 0; generation = 0 })

-- the reply is the answer. A new node may have any key that no node had before
pub record IsAnswer (limits : Bound) (r : Readings) (client : ℕ) (call : Call)
    (reply : Reply) : Type 0 where
  pub told : reply ≡ answer limits r client (key_told reply) call
  pub is_new : option_map_or r.was_given (new_key reply) false ≡ false
