-- The plays of actors: which calls they can make, one turn after another, and what they know then.
use Rattle.std.specs.Prelude.{ℕ, zero, suc, ◌+◌, ◌≡◌, Bool, true, false, ◌&&◌, ◌==◌, not, if◌then◌else◌}
use Rattle.std.specs.Prelude.{List, [], ◌∷◌, ◌++◌, length, map, slice_get, slice_set, Option, Some, None, is_some}
use Rattle.std.specs.List.{list_any}
use Rattle.std.specs.Option.{option_and_then, option_map, option_map_or}
use Rattle.sm_names.specs.declared.messages.Call.{Call}
use Rattle.sm_names.specs.declared.messages.Reply.{Reply}
use Rattle.sm_names.specs.declared.tracking.Fired.{Fired}
use Rattle.sm_names.specs.Marks.{Entry}
use Rattle.actor_scripts.specs.declared.object.StepCall.{StepCall}
use Rattle.actor_scripts.specs.declared.step.Step.{Step}
use Rattle.actor_scripts.specs.ActorStates.{Known, nothing_known, state_after, step_call}
use Rattle.actor_scripts.specs.Tables.{known}
use Rattle.core_state.specs.Shown.{Shows}
use Rattle.core_state.specs.State.{State}
use Rattle.actor_plays.specs.declared.actor.Actor.{Actor}
use Rattle.explore_model.specs.declared.plan.Plan.{Plan}
use Rattle.explore_model.specs.declared.plan.Planned.{Planned}
use Rattle.actor_plays.specs.declared.play.Asked.{Asked}
use Rattle.actor_plays.specs.declared.play.Play.{Play}
use Rattle.explore_model.specs.declared.found.Turn.{Turn}
use Rattle.actor_plays.specs.declared.play.Turned.{Turned}
use Rattle.actor_plays.specs.Leaves.{Leave, leave_after, leave_call, vanish_of}
use Rattle.explore_model.specs.Plans.{steps_of}

-- how far an actor is: how many steps of its plan are behind it, what it knows, the replies to the calls of its steps, each with
-- the place of its step, and how far it is in leaving, if it leaves
pub record Stage : Type 0 where
  pub at : ℕ
  pub known : Known
  pub made : List (ℕ × Reply)
  pub vanish : Option Leave

-- nothing is behind it
abbrev pub first_stage : Stage
first_stage = record { at = 0; known = nothing_known; made = []; vanish = None }

-- the next step is behind it, without a call
abbrev pub passed : Stage → Stage
passed stage = record stage { at = stage.at + 1 }

-- its call is made, and answered so
abbrev pub stage_after : Stage → Planned → StepCall → Reply → Stage
stage_after stage next asked reply = record {
  at = stage.at + 1;
  known = state_after stage.known next.step asked reply;
  made = stage.made ++ (stage.at, reply) ∷ [];
  vanish = stage.vanish;
}

-- the call by which it leaves, or goes on to leave, is answered so
abbrev pub left : Stage → Reply → Stage
left stage reply = record stage { vanish = Some (leave_after stage.vanish reply) }

-- that call, if there is one
abbrev pub leaves_by : Stage → Option Call
leaves_by stage = leave_call stage.known.objects stage.vanish

-- the next step of the actor of this place: one that leaves has none
abbrev pub next_step : List Plan → ℕ → Stage → Option Planned
next_step plans actor stage =
    let next : Option Planned = option_and_then (λ (plan : Plan). slice_get (steps_of plan) stage.at) (slice_get plans actor) in
    if is_some stage.vanish then None else next

-- the tracker is among those that fired
abbrev pub has_fired : List Fired → ℕ → Bool
has_fired fired id = list_any (λ (f : Fired). f.tracker == id) fired

-- the step looks at a tracker that has not fired
abbrev pub is_silent : List Fired → Known → Step → Bool
is_silent fired state (Step.Poll label) = option_map_or (λ id. not (has_fired fired id)) (state.trackers label) false
is_silent fired state (Step.Ask r) = false

-- the step waits for a tracker to fire
abbrev pub polls : List Fired → Known → Planned → Bool
polls fired state next = next.waits && is_silent fired state next.step

-- nothing was there for the call
abbrev pub is_wait : Reply → Bool
is_wait Reply.Empty = true
is_wait Reply.Pending = true
is_wait _ = false

-- the joins of these clients
abbrev pub joins : List ℕ → List Entry
joins clients = map (λ client. (0, Call.Join, Reply.Joined client)) clients

-- by these turns, each of the actor of a place, the actors of these plans, whose clients are these, made this history, and are
-- so far. All clients join first. An actor passes a step that makes no call, unless it waits for a tracker to fire. A turn
-- makes the call of its next step; one that waits is not made where nothing is there for it. Or it makes the call by which the
-- actor leaves, or goes on to leave: one that leaves makes no step any more
pub data Plays (plans : List Plan) (clients : List ℕ) : List Turn → List Entry → List Stage → Type 0 where
  Starts : length clients ≡ length plans → Plays plans clients [] (joins clients) (map (λ client. first_stage) clients)
  Passes : (turns : List Turn) (history : List Entry) (stages : List Stage) (actor : ℕ) (stage : Stage) (next : Planned) (s : State) →
      Plays plans clients turns history stages → slice_get stages actor ≡ Some stage → next_step plans actor stage ≡ Some next →
      step_call clients stage.known next.step ≡ None → Shows s history → polls s.trackers.fired stage.known next ≡ false →
      Plays plans clients turns history (slice_set stages actor (passed stage))
  Calls : (turns : List Turn) (history : List Entry) (stages : List Stage) (actor client : ℕ) (stage : Stage) (next : Planned)
      (asked : StepCall) (reply : Reply) →
      Plays plans clients turns history stages → slice_get stages actor ≡ Some stage → next_step plans actor stage ≡ Some next →
      step_call clients stage.known next.step ≡ Some asked → slice_get clients actor ≡ Some client →
      next.waits && is_wait reply ≡ false →
      Plays plans clients (turns ++ Turn.Step actor ∷ []) (history ++ (client, asked.call, reply) ∷ [])
      (slice_set stages actor (stage_after stage next asked reply))
  Leaves : (turns : List Turn) (history : List Entry) (stages : List Stage) (actor client : ℕ) (stage : Stage) (call : Call)
      (reply : Reply) →
      Plays plans clients turns history stages → slice_get stages actor ≡ Some stage → leaves_by stage ≡ Some call →
      slice_get clients actor ≡ Some client →
      Plays plans clients (turns ++ Turn.Leave actor ∷ []) (history ++ (client, call, reply) ∷ [])
      (slice_set stages actor (left stage reply))

-- how far the actor is
abbrev pub stage_of : Actor → Stage
stage_of actor = record {
  at = actor.at;
  known = known actor.state;
  made = actor.made.items;
  vanish = option_map vanish_of actor.vanish;
}

-- where each actor of the play is, by the order of the joins
abbrev pub stages_of : Play → List Stage
stages_of play = map stage_of play.actors.items

-- the play's turns are a play of the actors of these plans, its core shows its history, which is legal
pub record IsPlay (plans : List Plan) (play : Play) : Type 0 where
  pub shows : Shows play.core play.entries.items
  pub plays : Plays plans play.clients.items play.turns.items play.entries.items (stages_of play)

-- the clients that join first, if so many do: each is numbered by the event that made it
abbrev pub first_clients : ℕ → List ℕ
first_clients zero = []
first_clients (suc count) = first_clients count ++ (count + 1) ∷ []

-- so far clients have joined, and nothing else happened
pub record AreJoining (play : Play) : Type 0 where
  pub shows : Shows play.core play.entries.items
  pub entries : play.entries.items ≡ joins play.clients.items
  pub clients : play.clients.items ≡ first_clients play.core.events
  pub turns : play.turns.items ≡ []
  pub falls : play.falls.items ≡ []
  pub stages : stages_of play ≡ map (λ client. first_stage) play.clients.items

-- the play is answered Empty or Pending where the next step of the actor waits
pub record IsLeftWaiting (plans : List Plan) (old new : Play) (actor : ℕ) : Type 0 where
  pub stage : Stage
  pub next : Planned
  pub asked : StepCall
  pub client : ℕ
  pub reply : Reply
  pub at : slice_get (stages_of new) actor ≡ Some stage
  pub step : next_step plans actor stage ≡ Some next
  pub call : step_call new.clients.items stage.known next.step ≡ Some asked
  pub caller : slice_get new.clients.items actor ≡ Some client
  pub waits : next.waits && is_wait reply ≡ true
  pub entries : new.entries.items ≡ old.entries.items ++ (client, asked.call, reply) ∷ []
  pub shows : Shows new.core new.entries.items
  pub before : Plays plans old.clients.items old.turns.items old.entries.items (stages_of new)

-- this is what the actor asks for by its next step
pub record Asks (plans : List Plan) (play : Play) (actor : ℕ) (asks : Asked) : Type 0 where
  pub step : option_and_then (next_step plans actor) (slice_get (stages_of play) actor) ≡ Some asks.next
  pub call : option_and_then (λ (stage : Stage). step_call play.clients.items stage.known asks.next.step) (slice_get (stages_of play) actor)
      ≡ Some asks.asked
  pub caller : slice_get play.clients.items actor ≡ Some asks.client

-- nothing is what the actor asks for
abbrev pub AsksNothing : List Plan → Play → ℕ → Type 0
AsksNothing plans play actor = (asks : Asked) → Asks plans play actor asks → ⊥

-- what came of a turn of the actor
abbrev pub IsTurn : List Plan → Play → Play → ℕ → Turned → Type 0
IsTurn plans old new actor Turned.Made = IsPlay plans new × (new.turns.items ≡ old.turns.items ++ Turn.Step actor ∷ [])
IsTurn plans old new actor Turned.Waits = IsLeftWaiting plans old new actor
IsTurn plans old new actor Turned.Rests =
    IsPlay plans new × (new ≡ record old { actors = new.actors }) × AsksNothing plans new actor

-- what came of the actor's call by which it leaves, or goes on to leave: it was made, or there is none
abbrev pub IsLeave : List Plan → Play → Play → ℕ → Bool → Type 0
IsLeave plans old new actor true = IsPlay plans new × (new.turns.items ≡ old.turns.items ++ Turn.Leave actor ∷ [])
IsLeave plans old new actor false = (new ≡ old) × (option_and_then leaves_by (slice_get (stages_of old) actor) ≡ None)
