-- How an actor leaves: what a client does that vanishes.
use Rattle.std.specs.Prelude.{ℕ, ◌+◌, ◌-◌, ◌==◌, Bool, true, false, if◌then◌else◌, List, [], ◌∷◌, ◌++◌, slice_get, Option, Some, None}
use Rattle.std.specs.List.{flat_map}
use Rattle.std.specs.Option.{option_map, option_map_or}
use Rattle.sm_names.specs.declared.messages.Call.{Call}
use Rattle.sm_names.specs.declared.messages.Reply.{Reply}
use Rattle.actor_scripts.specs.declared.object.ActorObject.{ActorObject}
use Rattle.actor_scripts.specs.ActorStates.{new_objects}
use Rattle.actor_plays.specs.declared.vanish.VanishProgress.{VanishProgress}
use Rattle.actor_plays.specs.declared.vanish.Sort.{Sort}

-- how far an actor is that leaves: how many parcels it has still to collect, what it collected since it was shut, and with how
-- many of its objects it parted
pub record Leave : Type 0 where
  pub waiting : ℕ
  pub collected : List ActorObject
  pub parted : ℕ

-- the object is of the sort
abbrev pub is_of : Sort → ActorObject → Bool
is_of Sort.End (ActorObject.Token key collection) = true
is_of Sort.End (ActorObject.Collection key collection) = true
is_of Sort.Token (ActorObject.Token key collection) = true
is_of Sort.Collection (ActorObject.Collection key collection) = true
is_of Sort.Handle (ActorObject.Handle buffer strength) = true
is_of _ _ = false

-- the object, if it is of the sort
abbrev pub those : Sort → ActorObject → List ActorObject
those sort object = if is_of sort object then object ∷ [] else []

-- what lies in a slot, if it is of the sort
abbrev pub there : Sort → Option ActorObject → List ActorObject
there sort slot = option_map_or (those sort) slot []

-- all with which an actor parts, in order, which collected these and has the others in slots: the collected ends, the tokens, the
-- collections, the collected handles, the handles
abbrev pub all_objects : List ActorObject → List (Option ActorObject) → List ActorObject
all_objects collected slots = flat_map (those Sort.End) collected ++ (flat_map (there Sort.Token) slots
    ++ (flat_map (there Sort.Collection) slots ++ (flat_map (those Sort.Handle) collected ++ flat_map (there Sort.Handle) slots)))

-- the call that parts with the object
abbrev pub vanishing_call : ActorObject → Call
vanishing_call (ActorObject.Token key collection) = Call.Close key
vanishing_call (ActorObject.Collection key collection) = Call.Close key
vanishing_call (ActorObject.Handle buffer strength) = Call.DropHandle buffer strength

-- the call of an actor that leaves and has these slots: it collects all that waited for it when it was shut, then it parts with
-- one object after another
abbrev pub going_call : List (Option ActorObject) → Leave → Option Call
going_call slots l =
    let parts : Option Call = option_map vanishing_call (slice_get (all_objects l.collected slots) l.parted) in
    if l.waiting == 0 then parts else Some Call.Collect

-- the call by which an actor leaves, or goes on to leave, if there is one
abbrev pub leave_call : List (Option ActorObject) → Option Leave → Option Call
leave_call slots None = Some Call.Shut
leave_call slots (Some l) = going_call slots l

-- how many parcels the reply to a Shut counts
abbrev pub waiting_told : Reply → ℕ
waiting_told (Reply.Shut waiting) = waiting
waiting_told _ = 0

-- its next call was answered so: a Collect gave an object, or it parted with one, whatever the answer
abbrev pub going_after : Leave → Reply → Leave
going_after l reply =
    let parted : Leave = record l { parted = l.parted + 1 } in
    let collects : Leave = record l { waiting = l.waiting - 1; collected = l.collected ++ new_objects None Call.Collect reply } in
    if l.waiting == 0 then parted else collects

-- how far it is after this reply
abbrev pub leave_after : Option Leave → Reply → Leave
leave_after None reply = record { waiting = waiting_told reply; collected = []; parted = 0 }
leave_after (Some l) reply = going_after l reply

-- how far it is
abbrev pub vanish_of : VanishProgress → Leave
vanish_of vanish = record { waiting = vanish.waiting; collected = vanish.collected.items; parted = vanish.parted }
