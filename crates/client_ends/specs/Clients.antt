-- What a contract sees of clients and of what they hold.
use Rattle.std.specs.Prelude.{◌≡◌, ℕ, ◌+◌, ◌-◌, Bool, true, false, List, ◌++◌, length, slice_get, map, Option, option_map}
use Rattle.sm_names.specs.declared.keys.NodeKey.{NodeKey}
use Rattle.sm_names.specs.declared.keys.BufferName.{BufferName}
use Rattle.sm_names.specs.declared.keys.Strength.{Strength}
use Rattle.sm_names.specs.declared.messages.Call.{Call}
use Rattle.sm_names.specs.declared.messages.Reply.{Reply}
use Rattle.core_state.specs.Kinds.{fits_call}
use Rattle.event_laws.specs.declared.own.Own.{Own}
use Rattle.service_lock.specs.Accounts.{AppendsOwn}
pub use Rattle.service_lock.specs.Accounts.{is_done}
use Rattle.client_ends.specs.declared.why.Why.{Why}

-- a client: its id, the amount of its share of the events, and its own list
pub record Seen : Type 0 where
  pub id : ℕ
  pub share : ℕ
  pub own : List Own

-- an end: its holder, its node, and the node's collection
pub record Tag : Type 0 where
  pub client : ℕ
  pub key : NodeKey
  pub collection : ℕ

-- the reply of the last entry
abbrev pub last_reply : List Own → Option Reply
last_reply own = option_map (λ (o : Own). o.reply) (slice_get own (length own - 1))

-- the client made one event, of this call and this reply, which the call can have: its share rose by one, and it stands last in
-- its own list
pub record Made (old new : Seen) (call : Call) (reply : Reply) : Type 0 where
  pub id : new.id ≡ old.id
  pub share : new.share ≡ old.share + 1
  pub told : AppendsOwn old.own new.own call reply
  pub fits : fits_call call reply ≡ true

-- the calls of the entries
abbrev pub calls_of : List Own → List Call
calls_of own = map (λ (o : Own). o.call) own

-- their replies
abbrev pub replies_of : List Own → List Reply
replies_of own = map (λ (o : Own). o.reply) own

-- the client made one event for each of these calls, in this order, with these replies, and no other
pub record MadeAll (old new : Seen) (asked : List Call) (told : List Reply) : Type 0 where
  pub id : new.id ≡ old.id
  pub share : new.share ≡ old.share + length asked
  pub added : List Own
  pub own : new.own ≡ old.own ++ added
  pub calls : calls_of added ≡ asked
  pub replies : replies_of added ≡ told

-- a Release that was answered so has spent its end
abbrev pub release_spends : Reply → Bool
release_spends Reply.Done = true
release_spends (Reply.PeerClosed cause origin) = true
release_spends _ = false

-- the reply tells of a new token
abbrev pub is_token_reply : Reply → Bool
is_token_reply (Reply.Token key collection) = true
is_token_reply _ = false

-- of a new tracker
abbrev pub is_tracker_reply : Reply → Bool
is_tracker_reply (Reply.Tracker id) = true
is_tracker_reply _ = false

-- of handles that were taken
abbrev pub is_take_reply : Reply → Bool
is_take_reply (Reply.Taken collection strength set) = true
is_take_reply _ = false

-- of what was in a parcel, or that none waited
abbrev pub is_collect_reply : Reply → Bool
is_collect_reply (Reply.Collected key kind collection) = true
is_collect_reply (Reply.CollectedHandle buffer strength) = true
is_collect_reply Reply.Empty = true
is_collect_reply _ = false

-- one event was made, whose reply is the reason and none of those that were hoped for, or no event was
abbrev pub MadeOr : (Reply → Bool) → Seen → Seen → Call → Why → Type 0
MadeOr hoped old new call (Why.Reply reply) = Made old new call reply × (hoped reply ≡ false)
MadeOr hoped old new call (Why.Fault fault) = new ≡ old

-- a handle: who has it, its buffer, and its strength
pub record Grip : Type 0 where
  pub client : ℕ
  pub buffer : BufferName
  pub strength : Strength

-- the call opens, drops and moves no handle, and collects nothing
abbrev pub moves_no_handle : Call → Bool
moves_no_handle Call.Collect = false
moves_no_handle (Call.Take key) = false
moves_no_handle (Call.DupHandle buffer strength) = false
moves_no_handle (Call.DropHandle buffer strength) = false
moves_no_handle (Call.GiveHandle buffer strength to) = false
moves_no_handle _ = true
