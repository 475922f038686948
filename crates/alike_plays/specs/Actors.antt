-- Actors that are alike but for names.
use Rattle.std.specs.Prelude.{◌≡◌, ℕ, Bool, List, map, is_some}
use Rattle.std.specs.List.{filter}
use Rattle.std.specs.Option.{option_map}
use Rattle.sm_names.specs.declared.keys.BufferName.{BufferName}
use Rattle.sm_names.specs.declared.keys.NodeKey.{NodeKey}
use Rattle.sm_names.specs.declared.keys.Strength.{Strength}
use Rattle.sm_names.specs.declared.messages.Reply.{Reply}
use Rattle.actor_scripts.specs.declared.object.ActorObject.{ActorObject}
use Rattle.actor_scripts.specs.declared.object.StepCall.{StepCall}
use Rattle.actor_scripts.specs.ActorStates.{Known, NodePlace}
use Rattle.actor_plays.specs.Endings.{made_by}
use Rattle.actor_plays.specs.Leaves.{Leave}
use Rattle.actor_plays.specs.Plays.{Stage}
use Rattle.alike_cores.specs.Alike.{call_renamed, reply_renamed}
use Rattle.alike_cores.specs.Renamed.{buffer_renamed}

-- an object that an actor has, under its new name
abbrev pub object_renamed : (NodeKey → NodeKey) → (ℕ → ℕ) → ActorObject → ActorObject
object_renamed to id (ActorObject.Token key collection) = ActorObject.Token (to key) (id collection)
object_renamed to id (ActorObject.Collection key collection) = ActorObject.Collection (to key) (id collection)
object_renamed to id (ActorObject.Handle buffer strength) = ActorObject.Handle (buffer_renamed id buffer) strength

-- a node and its collection under new names
abbrev pub place_renamed : (NodeKey → NodeKey) → (ℕ → ℕ) → NodePlace → NodePlace
place_renamed to id place = (to place.0, id place.1)

-- what a step asks for, under new names
abbrev pub asked_renamed : (NodeKey → NodeKey) → (ℕ → ℕ) → StepCall → StepCall
asked_renamed to id asked = record asked { call = call_renamed to id asked.call }

-- how far an actor is in leaving, under new names
abbrev pub leave_renamed : (NodeKey → NodeKey) → (ℕ → ℕ) → Leave → Leave
leave_renamed to id l = record l { collected = map (object_renamed to id) l.collected }

-- the second actor knows what the first does, under other names
pub record AreAlikeKnown (to : NodeKey → NodeKey) (id number : ℕ → ℕ) (one other : Known) : Type 0 where
  pub nodes : (label : ℕ) → other.nodes label ≡ option_map (place_renamed to id) (one.nodes label)
  pub trackers : (label : ℕ) → other.trackers label ≡ option_map number (one.trackers label)
  pub objects : other.objects ≡ map (option_map (object_renamed to id)) one.objects
  pub spots : (key : NodeKey) → other.spots (to key) ≡ one.spots key
  pub handles : (strength : Strength) (b : BufferName) → other.handles strength (buffer_renamed id b) ≡ one.handles strength b

-- a reply to the step at a place, under new names
abbrev pub made_renamed : (NodeKey → NodeKey) → (ℕ → ℕ) → (ℕ → ℕ) → ℕ × Reply → ℕ × Reply
made_renamed to id number m = (m.0, reply_renamed to id number m.1)

-- the reply tells of a node or a tracker that the step made
abbrev pub tells_made : Reply → Bool
tells_made reply = is_some (made_by reply)

-- of the replies those that tell what their steps made, each with the place of its step
abbrev pub made_of : List (ℕ × Reply) → List (ℕ × Reply)
made_of made = filter (λ (m : ℕ × Reply). tells_made m.1) made

-- the second actor is where the first is, under other names. Which replies it got that tell of nothing made is no part of this
pub record AreAlikeStages (to : NodeKey → NodeKey) (id number : ℕ → ℕ) (one other : Stage) : Type 0 where
  pub at : other.at ≡ one.at
  pub known : AreAlikeKnown to id number one.known other.known
  pub made : made_of other.made ≡ map (made_renamed to id number) (made_of one.made)
  pub vanish : other.vanish ≡ option_map (leave_renamed to id) one.vanish
