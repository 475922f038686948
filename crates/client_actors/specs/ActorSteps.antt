-- What an actor has, and the steps that it made.
use Rattle.std.specs.Prelude.{ℕ, ◌≡◌, ◌≤◌, ◌+◌, ◌⊎◌, if◌then◌else◌, List, [], ◌∷◌}
use Rattle.std.specs.Prelude.{◌++◌, map, reverse, flat_map, Option, Some, None, vec_len, vec_capacity}
use Rattle.std.specs.List.{All}
use Rattle.sm_names.specs.declared.messages.Call.{Call}
use Rattle.sm_names.specs.declared.messages.Reply.{Reply}
use Rattle.event_laws.specs.declared.own.Own.{Own}
use Rattle.client_ends.specs.declared.held.ParcelContent.{ParcelContent}
use Rattle.client_ends.specs.declared.held.Held.{Held}
use Rattle.client_ends.specs.Clients.{Made, Seen}
use Rattle.client_vanish.specs.Vanishings.{AllHeldBy, Holds, IsBroken, IsGone, Remains}
use Rattle.client_vanish.specs.Vanishings.{HeldObject, Token, Collection, Handle, held_in, sorted}
use Rattle.client_vanish.specs.Stacks.{kept_objects}
use Rattle.actor_scripts.specs.declared.step.Step.{Step}
use Rattle.actor_scripts.specs.declared.object.StepCall.{StepCall}
use Rattle.actor_scripts.specs.declared.object.ActorObject.{ActorObject}
use Rattle.actor_scripts.specs.ActorStates.{Known, emptied, state_after, step_call, new_objects, on_of, spends_object, objects_after}
use Rattle.actor_scripts.specs.Tables.{known}
use Rattle.client_actors.specs.declared.actor.Actor.{Actor}
use Rattle.client_actors.specs.declared.gate.ActorEnd.{ActorEnd}
use Rattle.client_actors.specs.declared.new_objects.NewObjects.{NewObjects}
use Rattle.client_actors.specs.ObjectCalls.{NewHeldBy, SlotHeldBy, lies, objects_in}
use Rattle.client_actors.specs.PatientRuns.{FindsNothing, RunsPatiently, RunsSome}

-- the calls and replies of a list
abbrev pub pairs_of : List Own → List (Call × Reply)
pairs_of own = map (λ (o : Own). (o.call, o.reply)) own

-- an object that this client holds
abbrev pub part_of : ℕ → Option ActorObject → List HeldObject
part_of client None = []
part_of client (Some (ActorObject.Token key collection)) =
    Token (record { client = client; key = key; collection = collection }) ∷ []
part_of client (Some (ActorObject.Collection key collection)) =
    Collection (record { client = client; key = key; collection = collection }) ∷ []
part_of client (Some (ActorObject.Handle buffer strength)) =
    Handle (record { client = client; buffer = buffer; strength = strength }) ∷ []

-- all that an actor holds by what it knows: in the list of each kind in the order in which it came
abbrev pub holds_by_state : ℕ → Known → Holds
holds_by_state client state = sorted (flat_map (part_of client) state.objects)

-- the remains of an actor that made all its steps, each at most so many times more, and vanished: its own list is a run of its script,
-- followed by the events that closed all that it held then
pub record HasFinished (clients : List ℕ) (most : ℕ) (steps : List Step) (left : Remains) : Type 0 where
  pub before : Seen
  pub state : Known
  pub runs : RunsPatiently clients most steps (pairs_of before.own) state
  pub gone : IsGone before left.client (holds_by_state before.id state) left.refused

-- a client's own list is a run of the first of its steps, and these are the objects that it then has
pub record HasRunSome (clients : List ℕ) (most : ℕ) (steps : List Step) (client : Seen) (objects : List (Option ActorObject)) : Type 0 where
  pub state : Known
  pub runs : RunsSome clients most steps (pairs_of client.own) state
  pub has : objects ≡ state.objects

-- an actor that a fault stopped: its own list is a run of the first of its steps, and then, if it made them all, the first
-- events of its vanishing. It holds what these did not close
pub record HasStopped (clients : List ℕ) (most : ℕ) (steps : List Step) (client : Seen) (held : Holds) : Type 0 where
  pub before : Seen
  pub state : Known
  pub runs : RunsSome clients most steps (pairs_of before.own) state
  pub broken : IsBroken before client (holds_by_state before.id state) held
  pub turn : (client ≡ before) ⊎ (runs.left ≡ [])
  pub owned : AllHeldBy client.id held

-- one event was made, of this call on the object in the slot, if the call has a slot: the slots became `after`, and these objects are new
pub record Asks {E S W : Type 0} (old new : Seen) (call : Call) (slot : Option ℕ) (before after : List (Option ActorObject))
    (brought : NewObjects E S W) : Type 0 where
  pub reply : Reply
  pub made : Made old new call reply
  pub left : after ≡ (if spends_object call reply then emptied before slot else before)
  pub objects : objects_in brought ≡ new_objects (on_of before slot) call reply
  pub owned : NewHeldBy old.id brought

-- one event was made of this call, and the slots are as after its reply
pub record MakesCall (old new : Seen) (asked : StepCall) (before after : List (Option ActorObject)) : Type 0 where
  pub reply : Reply
  pub made : Made old new asked.call reply
  pub objects : after ≡ objects_after before asked reply

-- a call came to a fault: it was not made and the slots are as they were, or it was and they are as after its reply
abbrev pub Falters : Seen → Seen → StepCall → List (Option ActorObject) → List (Option ActorObject) → Type 0
Falters old new asked before after =
    ((new ≡ old) × (after ≡ before)) ⊎ MakesCall old new asked before after

-- each list has room for this many objects more
pub record ListsHaveRoom {E S W : Type 0} (held : Held E S W) (more : ℕ) : Type 0 where
  pub tokens : vec_len held.tokens + more ≤ vec_capacity held.tokens
  pub collections : vec_len held.collections + more ≤ vec_capacity held.collections
  pub handles : vec_len held.handles + more ≤ vec_capacity held.handles

-- the actor's objects are those of its client, and its empty lists have room for them
pub record ActorInvariant {E S W : Type 0} (actor : Actor E S W) : Type 0 where
  pub owned : All (SlotHeldBy actor.client.id) actor.slots.items
  pub none : held_in actor.held ≡ sorted []
  pub room : ListsHaveRoom actor.held (vec_len actor.slots)

-- its slots are as it knows them
abbrev pub IsAware : {E S W : Type 0} → Actor E S W → Type 0
IsAware actor = lies actor.slots.items ≡ (known actor.state).objects

-- the step made this call, whose reply is this, and the actor then knows this
pub record HasCalled (clients : List ℕ) (step : Step) (reply : Reply) (before after : List (Call × Reply))
    (state next : Known) : Type 0 where
  pub asked : StepCall
  pub is_asked : step_call clients state step ≡ Some asked
  pub made : after ≡ before ++ (asked.call, reply) ∷ []
  pub knows : next ≡ state_after state step asked reply

-- the step made a call with this reply, or none was made
abbrev pub HasAnswer : List ℕ → Step → Option Reply → List (Call × Reply) → List (Call × Reply) → Known → Known → Type 0
HasAnswer clients step (Some reply) before after state next = HasCalled clients step reply before after state next
HasAnswer clients step None before after state next = (after ≡ before) × (next ≡ state)

-- the actor made the step, on this reply, or skipped it, and its slots are as it knows them
pub record HasStepped {E S W : Type 0} (clients : List ℕ) (step : Step) (reply : Option Reply) (old new : Actor E S W) : Type 0 where
  pub answer : HasAnswer clients step reply (pairs_of old.client.own) (pairs_of new.client.own) (known old.state) (known new.state)
  pub skips : reply ≡ None → step_call clients (known old.state) step ≡ None
  pub aware : IsAware new

-- a step came to a fault: no call was made, or one was, and the slots are as after its reply
pub record HasFaltered {E S W : Type 0} (clients : List ℕ) (step : Step) (old new : Actor E S W) : Type 0 where
  pub reply : Option Reply
  pub state : Known
  pub answer : HasAnswer clients step reply (pairs_of old.client.own) (pairs_of new.client.own) (known old.state) state
  pub has : lies new.slots.items ≡ state.objects

-- the objects in slots, the newest first
abbrev pub last_objects_first : {E S W : Type 0} → List (Option (ParcelContent E S W)) → List HeldObject
last_objects_first slots = flat_map kept_objects (reverse slots)

-- the objects in slots, in their order
abbrev pub objects_in_slots : {E S W : Type 0} → List (Option (ParcelContent E S W)) → List HeldObject
objects_in_slots slots = flat_map kept_objects slots

-- the actor made this call, and knows its reply
pub record HasMade {E S W : Type 0} (step : Step) (asked : StepCall) (reply : Reply) (old new : Actor E S W) : Type 0 where
  pub made : Made old.client new.client asked.call reply
  pub knows : known new.state ≡ state_after (known old.state) step asked reply
  pub objects : (known new.state).objects ≡ objects_after (known old.state).objects asked reply
  pub slots : lies new.slots.items ≡ objects_after (lies old.slots.items) asked reply

-- an actor is gone and has run its script, each step at most so many times more, or was stopped in it
abbrev pub EndsSo : {E S W : Type 0} → List ℕ → ℕ → List Step → ℕ → ActorEnd E S W → Type 0
EndsSo clients most steps id (ActorEnd.Wrecked wreck) = (wreck.client.id ≡ id) × HasFinished clients most steps wreck
EndsSo clients most steps id (ActorEnd.Stopped client held fault) =
    (client.id ≡ id) × HasStopped clients most steps client (held_in held)
EndsSo clients most steps id (ActorEnd.NotStarted client) = ⊥

-- it has made all steps but these, which are the last ones
pub record HasRunTo {E S W : Type 0} (clients : List ℕ) (most : ℕ) (steps rest : List Step) (actor : Actor E S W) : Type 0 where
  pub done : List Step
  pub split : steps ≡ done ++ rest
  pub runs : RunsPatiently clients most done (pairs_of actor.client.own) (known actor.state)

-- if the actor has made some steps, it has made this one too, at most so many times more, and its slots are as it knows them
pub record HasTaken {E S W : Type 0} (clients : List ℕ) (most : ℕ) (step : Step) (old new : Actor E S W) : Type 0 where
  pub runs : (steps : List Step) → RunsPatiently clients most steps (pairs_of old.client.own) (known old.state) →
      RunsPatiently clients most (steps ++ step ∷ []) (pairs_of new.client.own) (known new.state)
  pub aware : IsAware new

-- a step came to a fault: if the actor has made the steps before it, it has still made the first of all
pub record HasGivenUp {E S W : Type 0} (clients : List ℕ) (most : ℕ) (step : Step) (old new : Actor E S W) : Type 0 where
  pub runs : (steps done left : List Step) → steps ≡ done ++ step ∷ left →
      RunsPatiently clients most done (pairs_of old.client.own) (known old.state) →
      HasRunSome clients most steps new.client (lies new.slots.items)

-- the step was tried so often, and nothing was there
pub record IsWaiting {E S W : Type 0} (clients : List ℕ) (step : Step) (tries : ℕ) (old new : Actor E S W) : Type 0 where
  pub tried : List (Call × Reply)
  pub nothing : FindsNothing clients step (known old.state) tries tried (known new.state)
  pub made : pairs_of new.client.own ≡ pairs_of old.client.own ++ tried
