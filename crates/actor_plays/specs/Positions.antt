-- Plays of actors on cores, turn by turn.
use Rattle.std.specs.Prelude.{◌≡◌, ℕ, Bool, true, false, ◌||◌, ◌&&◌, List, [], ◌∷◌, ◌++◌, length, map, slice_get, slice_set}
use Rattle.std.specs.Prelude.{Option, Some, None, is_some}
use Rattle.std.specs.List.{flat_map}
use Rattle.std.specs.Option.{option_map}
use Rattle.sm_names.specs.declared.messages.Call.{Call}
use Rattle.sm_names.specs.declared.messages.Reply.{Reply}
use Rattle.sm_names.specs.Answers.{answer}
use Rattle.sm_names.specs.Bounds.{Bound}
use Rattle.core_state.specs.Reads.{readings_of}
use Rattle.core_state.specs.Shown.{Shows}
use Rattle.core_state.specs.State.{State}
use Rattle.core_state.specs.Theorem.{Makes}
use Rattle.forced_marks.specs.Marks.{AreStages, Stage as Marked}
use Rattle.forest_store.specs.Settling.{no_key}
use Rattle.actor_scripts.specs.declared.object.StepCall.{StepCall}
use Rattle.actor_scripts.specs.ActorStates.{step_call}
use Rattle.explore_model.specs.declared.plan.Plan.{Plan}
use Rattle.explore_model.specs.declared.plan.Planned.{Planned}
use Rattle.explore_model.specs.declared.found.Turn.{Turn}
use Rattle.actor_plays.specs.declared.falls.GoneNode.{GoneNode}
use Rattle.actor_plays.specs.Fates.{falls_at}
use Rattle.actor_plays.specs.Leaves.{Leave}
use Rattle.actor_plays.specs.Plays.{Stage, first_stage, is_wait, joins, leaves_by, left, next_step, passed, polls, stage_after}

-- what is given for plays: the pages of the pool, the limits, the actors' plans and clients, and which actor may begin to leave.
-- This is told by where each actor that leaves began to, the place of the actor, and how many steps are behind it
pub record Setup : Type 0 where
  pub pool : ℕ
  pub limits : Bound
  pub plans : List Plan
  pub clients : List ℕ
  pub may_leave : List (Option ℕ) → ℕ → ℕ → Bool

-- where a play is: its core, how far each actor is, and which nodes fell
pub record Position : Type 0 where
  pub core : State
  pub stages : List Stage
  pub falls : List GoneNode

-- how many steps were behind the actor when it began to leave, if it leaves
abbrev pub left_at : Stage → Option ℕ
left_at stage = option_map (λ (l : Leave). stage.at) stage.vanish

-- the actor may leave, or go on to
abbrev pub may_go : Setup → Position → ℕ → Stage → Bool
may_go setup p actor stage = is_some stage.vanish || setup.may_leave (map left_at p.stages) actor stage.at

-- the actor passes its next step: it makes no call, and does not wait for a tracker to fire
pub record Passes (setup : Setup) (actor : ℕ) (old new : Position) : Type 0 where
  pub stage : Stage
  pub next : Planned
  pub at : slice_get old.stages actor ≡ Some stage
  pub step : next_step setup.plans actor stage ≡ Some next
  pub silent : step_call setup.clients stage.known next.step ≡ None
  pub looks : polls old.core.trackers.fired stage.known next ≡ false
  pub after : new ≡ record old { stages = slice_set old.stages actor (passed stage) }

-- the actor has passed all steps that it can
abbrev pub Rests : Setup → Position → ℕ → Type 0
Rests setup p actor = (new : Position) → Passes setup actor p new → ⊥

-- from the first to the last, actors pass one step after another
pub data PassOn (setup : Setup) : Position → Position → Type 0 where
  Stays : (p : Position) → PassOn setup p p
  Further : (actor : ℕ) (old mid new : Position) → Passes setup actor old mid → PassOn setup mid new → PassOn setup old new

-- the next step of the actor makes this call
pub record Asks (setup : Setup) (actor : ℕ) (p : Position) : Type 0 where
  pub stage : Stage
  pub next : Planned
  pub asked : StepCall
  pub client : ℕ
  pub at : slice_get p.stages actor ≡ Some stage
  pub step : next_step setup.plans actor stage ≡ Some next
  pub call : step_call setup.clients stage.known next.step ≡ Some asked
  pub caller : slice_get setup.clients actor ≡ Some client

-- the step waits, and nothing is there for its call
abbrev pub HasToWait : (setup : Setup) (actor : ℕ) (p : Position) → Asks setup actor p → Type 0
HasToWait setup actor p asks =
    asks.next.waits && is_wait (answer p.core.limits (readings_of p.core) asks.client no_key asks.asked.call) ≡ true

-- the nodes that fell, with those that the marks of this call take
pub record Fell (old new : Position) (client : ℕ) (call : Call) (reply : Reply) : Type 0 where
  pub marks : List Marked
  pub are : AreStages old.core new.core client call reply marks
  pub falls : new.falls ≡ old.falls ++ flat_map falls_at marks

-- the core answers that call so; if the step waits, something was there for it
pub record Calls (setup : Setup) (actor : ℕ) (old new : Position) : Type 0 where
  pub asks : Asks setup actor old
  pub reply : Reply
  pub made : Makes old.core new.core (asks.client, asks.asked.call, reply)
  pub waits : asks.next.waits && is_wait reply ≡ false
  pub stages : new.stages ≡ slice_set old.stages actor (stage_after asks.stage asks.next asks.asked reply)
  pub fell : Fell old new asks.client asks.asked.call reply

-- the actor, which may, leaves by this call, or goes on to. Before it begins to, it passes all steps that it can
pub record Goes (setup : Setup) (actor : ℕ) (p : Position) : Type 0 where
  pub stage : Stage
  pub call : Call
  pub client : ℕ
  pub at : slice_get p.stages actor ≡ Some stage
  pub by : leaves_by stage ≡ Some call
  pub caller : slice_get setup.clients actor ≡ Some client
  pub may : may_go setup p actor stage ≡ true
  pub rests : Rests setup p actor

-- the core answers that call so
pub record Leaves (setup : Setup) (actor : ℕ) (old new : Position) : Type 0 where
  pub goes : Goes setup actor old
  pub reply : Reply
  pub made : Makes old.core new.core (goes.client, goes.call, reply)
  pub stages : new.stages ≡ slice_set old.stages actor (left goes.stage reply)
  pub fell : Fell old new goes.client goes.call reply

-- a core shows that all clients joined and nothing else happened, no step is behind an actor, and no node fell
pub record Begins (setup : Setup) (p : Position) : Type 0 where
  pub pool : p.core.pool ≡ setup.pool
  pub limits : p.core.limits ≡ setup.limits
  pub shows : Shows p.core (joins setup.clients)
  pub count : length setup.clients ≡ length setup.plans
  pub stages : p.stages ≡ map (λ client. first_stage) setup.clients
  pub falls : p.falls ≡ []

-- a play of the actors on a core came here
pub data Reached (setup : Setup) : Position → Type 0 where
  Starts : (p : Position) → Begins setup p → Reached setup p
  ByPass : (actor : ℕ) (old new : Position) → Reached setup old → Passes setup actor old new → Reached setup new
  ByCall : (actor : ℕ) (old new : Position) → Reached setup old → Calls setup actor old new → Reached setup new
  ByLeave : (actor : ℕ) (old new : Position) → Reached setup old → Leaves setup actor old new → Reached setup new

-- the same by these turns, one after another
pub data ReachedBy (setup : Setup) : List Turn → Position → Type 0 where
  Starts : (p : Position) → Begins setup p → ReachedBy setup [] p
  ByPass : (actor : ℕ) (turns : List Turn) (old new : Position) → ReachedBy setup turns old → Passes setup actor old new →
      ReachedBy setup turns new
  ByCall : (actor : ℕ) (turns : List Turn) (old new : Position) → ReachedBy setup turns old → Calls setup actor old new →
      ReachedBy setup (turns ++ Turn.Step actor ∷ []) new
  ByLeave : (actor : ℕ) (turns : List Turn) (old new : Position) → ReachedBy setup turns old → Leaves setup actor old new →
      ReachedBy setup (turns ++ Turn.Leave actor ∷ []) new
