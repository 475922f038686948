-- What a call does to what an actor holds.
use Rattle.std.specs.Prelude.{ℕ, ◌≡◌, Bool, true, false, if◌then◌else◌, List, [], ◌∷◌, map, Option, Some, None, ⊤}
use Rattle.std.specs.List.{All}
use Rattle.std.specs.Option.{option_map}
use Rattle.sm_names.specs.declared.call_parts.Spends.{Spends as Spending}
use Rattle.sm_names.specs.declared.messages.Call.{Call}
use Rattle.sm_names.specs.declared.messages.Reply.{Reply}
use Rattle.sm_names.specs.CallRows.{row_for}
use Rattle.client_ends.specs.declared.held.ParcelContent.{ParcelContent}
use Rattle.client_ends.specs.Clients.{Grip, Made, Seen, Tag}
use Rattle.client_ends.specs.Collecting.{end_client}
use Rattle.actor_scripts.specs.declared.object.ActorObject.{ActorObject}
use Rattle.actor_scripts.specs.ActorStates.{new_objects, spends_object}
use Rattle.client_actors.specs.declared.new_objects.NewObjects.{NewObjects}

-- a token, a collection and a handle, whoever holds them
abbrev pub token_seen : Tag → ActorObject
token_seen t = ActorObject.Token t.key t.collection

-- the object that a typed collection is
abbrev pub collection_seen : Tag → ActorObject
collection_seen c = ActorObject.Collection c.key c.collection

-- the object that a typed handle is
abbrev pub handle_seen : Grip → ActorObject
handle_seen h = ActorObject.Handle h.buffer h.strength

-- an object, whoever holds it
abbrev pub object_seen : {E S W : Type 0} → ParcelContent E S W → ActorObject
object_seen (ParcelContent.Token t) = token_seen t
object_seen (ParcelContent.Collection c) = collection_seen c
object_seen (ParcelContent.Handle h) = handle_seen h

-- what lies in a slot
abbrev pub there : {E S W : Type 0} → Option (ParcelContent E S W) → Option ActorObject
there slot = option_map object_seen slot

-- if it is something, it is this client's
abbrev pub SlotHeldBy : {E S W : Type 0} → ℕ → Option (ParcelContent E S W) → Type 0
SlotHeldBy client None = ⊤
SlotHeldBy client (Some end) = end_client end ≡ client

-- the objects that were brought
abbrev pub objects_in : {E S W : Type 0} → NewObjects E S W → List ActorObject
objects_in NewObjects.Nothing = []
objects_in (NewObjects.One end) = object_seen end ∷ []
objects_in (NewObjects.Handles handles) = map handle_seen handles.items
objects_in (NewObjects.Tracker tracker) = []

-- they are this client's
abbrev pub NewHeldBy : {E S W : Type 0} → ℕ → NewObjects E S W → Type 0
NewHeldBy client NewObjects.Nothing = ⊤
NewHeldBy client (NewObjects.One end) = end_client end ≡ client
NewHeldBy client (NewObjects.Handles handles) = All (λ (h : Grip). h.client ≡ client) handles.items
NewHeldBy client (NewObjects.Tracker tracker) = ⊤

-- one event was made, of this call on this object: the object became `after`, and these objects are new
pub record Did {E S W : Type 0} (old new : Seen) (call : Call) (before after : Option ActorObject)
    (brought : NewObjects E S W) : Type 0 where
  pub reply : Reply
  pub made : Made old new call reply
  pub left : after ≡ (if spends_object call reply then None else before)
  pub objects : objects_in brought ≡ new_objects before call reply
  pub owned : NewHeldBy old.id brought

-- one event was made that spent what it was made on
pub record Spent {E S W : Type 0} (old new : Seen) (call : Call) (before : Option ActorObject) (brought : NewObjects E S W) : Type 0 where
  pub reply : Reply
  pub made : Made old new call reply
  pub gone : spends_object call reply ≡ true
  pub objects : objects_in brought ≡ new_objects before call reply
  pub owned : NewHeldBy old.id brought

-- a call that spends so may spend what it is made on
abbrev pub spends_ever : Spending → Bool
spends_ever Spending.Never = false
spends_ever Spending.IfDone = true
spends_ever Spending.IfMet = true

-- the call may spend what it is made on
abbrev pub may_spend : Call → Bool
may_spend call = spends_ever (row_for call).spends

-- one event was made of a call that leaves what it is made on, and brought this
pub record Lent {E S W : Type 0} (old new : Seen) (call : Call) (brought : NewObjects E S W) : Type 0 where
  pub reply : Reply
  pub made : Made old new call reply
  pub stays : spends_object call reply ≡ false
  pub objects : (on : Option ActorObject) → objects_in brought ≡ new_objects on call reply
  pub owned : NewHeldBy old.id brought

-- one event was made that spent what it was made on, and brought nothing in its place
pub record Spends (old new : Seen) (call : Call) : Type 0 where
  pub reply : Reply
  pub made : Made old new call reply
  pub gone : spends_object call reply ≡ true
  pub objects : (on : Option ActorObject) → new_objects on call reply ≡ []

-- what lies in all slots
abbrev pub lies : {E S W : Type 0} → List (Option (ParcelContent E S W)) → List (Option ActorObject)
lies slots = map there slots

-- a slot in which a handle lies
abbrev pub filled_by : {E S W : Type 0} → Grip → Option (ParcelContent E S W)
filled_by handle = Some (ParcelContent.Handle handle)

-- the slots of what was brought
abbrev pub slots_for : {E S W : Type 0} → NewObjects E S W → List (Option (ParcelContent E S W))
slots_for NewObjects.Nothing = []
slots_for (NewObjects.One end) = Some end ∷ []
slots_for (NewObjects.Handles handles) = map filled_by handles.items
slots_for (NewObjects.Tracker tracker) = []
