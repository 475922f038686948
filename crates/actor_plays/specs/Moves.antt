-- What the steps of a play do with its position.
use Rattle.std.specs.Prelude.{◌≡◌, ℕ, Bool, true, false, List, slice_get}
use Rattle.std.specs.Option.{option_map_or}
use Rattle.actor_plays.specs.declared.falls.GoneNode.{GoneNode}
use Rattle.explore_model.specs.declared.plan.Plan.{Plan}
use Rattle.actor_plays.specs.declared.play.Play.{Play}
use Rattle.actor_plays.specs.declared.play.Turned.{Turned}
use Rattle.actor_plays.specs.Plays.{IsPlay, stages_of}
use Rattle.actor_plays.specs.Positions.{Asks, Calls, Goes, HasToWait, Leaves, PassOn, Passes, Position, ReachedBy, Rests, Setup, may_go}

-- where the play is, if these nodes fell
abbrev pub position_at : List GoneNode → Play → Position
position_at falls play = record { core = play.core; stages = stages_of play; falls = falls }

-- where the play is, if it tells: those nodes fell that it noted
abbrev pub position_of : Play → Position
position_of play = position_at play.falls.items play

-- the play is one of this setup: its plans are these, and the play has its clients, pages and limits
pub record IsOfSetup (setup : Setup) (plans : List Plan) (play : Play) : Type 0 where
  pub plans_are : setup.plans ≡ plans
  pub clients : play.clients.items ≡ setup.clients
  pub pool : play.core.pool ≡ setup.pool
  pub limits : play.core.limits ≡ setup.limits

-- the actor passed its next step
abbrev pub HasPassed : List Plan → Play → Play → ℕ → Type 0
HasPassed plans old new actor = (setup : Setup) → IsOfSetup setup plans old → Passes setup actor (position_of old) (position_of new)

-- actors passed steps, one after another
abbrev pub HavePassed : List Plan → Play → Play → Type 0
HavePassed plans old new = (setup : Setup) → IsOfSetup setup plans old → PassOn setup (position_of old) (position_of new)

-- the actor has passed all steps that it can
abbrev pub HasRest : List Plan → Play → ℕ → Type 0
HasRest plans play actor = (setup : Setup) → IsOfSetup setup plans play → Rests setup (position_of play) actor

-- what came of the turn of an actor that passed what it could: it made its call, or has to wait with it, or has none
abbrev pub ComesTo : Setup → ℕ → Position → Position → Turned → Type 0
ComesTo setup actor old new Turned.Made = Calls setup actor old new
ComesTo setup actor old new Turned.Waits = (asks : Asks setup actor old) × HasToWait setup actor old asks
ComesTo setup actor old new Turned.Rests = (new ≡ old) × Rests setup old actor × (Asks setup actor old → ⊥)

-- what came of the turn of the actor, between these positions: it passed steps before it
pub record HasTurned (plans : List Plan) (new : Play) (actor : ℕ) (turned : Turned) (setup : Setup) (before after : Position) : Type 0
  where
    pub setup_is : IsOfSetup setup plans new
    pub mid : Position
    pub passes : PassOn setup before mid
    pub comes : ComesTo setup actor mid after turned

-- the same for each setup of the play, where these nodes fell before the turn, and those by its end
abbrev pub TurnsBetween : List Plan → Play → Play → ℕ → Turned → List GoneNode → List GoneNode → Type 0
TurnsBetween plans old new actor turned before after = (setup : Setup) → IsOfSetup setup plans old →
    HasTurned plans new actor turned setup (position_at before old) (position_at after new)

-- the same where the play tells
abbrev pub TakesTurn : List Plan → Play → Play → ℕ → Turned → Type 0
TakesTurn plans old new actor turned = TurnsBetween plans old new actor turned old.falls.items new.falls.items

-- the same where it need not tell: whatever fell before, there is what fell by the end
abbrev pub TakesTurnUntold : List Plan → Play → Play → ℕ → Turned → Type 0
TakesTurnUntold plans old new actor turned =
    (before : List GoneNode) → (after : List GoneNode) × TurnsBetween plans old new actor turned before after

-- the actor of this place may leave, or go on to
abbrev pub may_go_at : Setup → Position → ℕ → Bool
may_go_at setup p actor = option_map_or (may_go setup p actor) (slice_get p.stages actor) false

-- what came of the call by which an actor leaves, or goes on to: it left if it might, and had passed what it could; or it has no
-- such call
abbrev pub LeavesTo : Setup → ℕ → Position → Position → Bool → Type 0
LeavesTo setup actor old new true = may_go_at setup old actor ≡ true → Rests setup old actor → Leaves setup actor old new
LeavesTo setup actor old new false = Goes setup actor old → ⊥

-- the same for each setup of the play, where these nodes fell before the call, and those by its end
abbrev pub LeavesBetween : List Plan → Play → Play → ℕ → Bool → List GoneNode → List GoneNode → Type 0
LeavesBetween plans old new actor made before after = (setup : Setup) → IsOfSetup setup plans old →
    IsOfSetup setup plans new × LeavesTo setup actor (position_at before old) (position_at after new) made

-- the same where the play tells
abbrev pub TakesLeave : List Plan → Play → Play → ℕ → Bool → Type 0
TakesLeave plans old new actor made = LeavesBetween plans old new actor made old.falls.items new.falls.items

-- the same where it need not tell: whatever fell before, there is what fell by the end
abbrev pub TakesLeaveUntold : List Plan → Play → Play → ℕ → Bool → Type 0
TakesLeaveUntold plans old new actor made =
    (before : List GoneNode) → (after : List GoneNode) × LeavesBetween plans old new actor made before after

-- the play is one of the setup, and came by its turns, one after another, to where it is, if these nodes fell
pub record HasComeTo (setup : Setup) (plans : List Plan) (play : Play) (falls : List GoneNode) : Type 0 where
  pub plays : IsPlay plans play
  pub setup_is : IsOfSetup setup plans play
  pub reached : ReachedBy setup play.turns.items (position_at falls play)

-- the same where the play told all along
abbrev pub HasCome : Setup → List Plan → Play → Type 0
HasCome setup plans play = HasComeTo setup plans play play.falls.items
