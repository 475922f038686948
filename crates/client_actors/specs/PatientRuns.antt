-- Which calls and replies are a run of a script whose steps are made again while nothing is there for them.
use Rattle.std.specs.Prelude.{ℕ, ◌≡◌, ◌≤◌, ◌+◌, ◌⊎◌, Bool, true, false, List, [], ◌∷◌, ◌++◌, Some, None}
use Rattle.sm_names.specs.declared.messages.Call.{Call}
use Rattle.sm_names.specs.declared.messages.Reply.{Reply}
use Rattle.actor_scripts.specs.declared.step.Step.{Step}
use Rattle.actor_scripts.specs.declared.object.StepCall.{StepCall}
use Rattle.actor_scripts.specs.ActorStates.{Known, step_call, state_after, nothing_known}

-- nothing was there: no parcel waited, or the allocation was not decided
abbrev pub finds_nothing : Reply → Bool
finds_nothing Reply.Empty = true
finds_nothing Reply.Pending = true
finds_nothing _ = false

-- the step was tried so often, by these calls on these replies, and nothing was there; an actor that knew `before` then knows `state`
pub data FindsNothing (clients : List ℕ) (step : Step) (before : Known) : ℕ → List (Call × Reply) → Known → Type 0 where
  Untried : FindsNothing clients step before 0 [] before
  Tried : (tries : ℕ) (tried : List (Call × Reply)) (state : Known) (asked : StepCall) (reply : Reply) →
      FindsNothing clients step before tries tried state → step_call clients state step ≡ Some asked → finds_nothing reply ≡ true →
      FindsNothing clients step before (tries + 1) (tried ++ (asked.call, reply) ∷ []) (state_after state step asked reply)

-- these steps, one after another, make these calls on these replies: each is made again while nothing is there for it, at most so many
-- times more, and a step that is skipped makes no call; `state` is what the actor then knows
pub data RunsPatiently (clients : List ℕ) (most : ℕ) : List Step → List (Call × Reply) → Known → Type 0 where
  Starts : RunsPatiently clients most [] [] nothing_known
  Skips : (steps : List Step) (made tried : List (Call × Reply)) (before state : Known) (step : Step) (tries : ℕ) →
      RunsPatiently clients most steps made before → FindsNothing clients step before tries tried state → tries ≤ most →
      step_call clients state step ≡ None → RunsPatiently clients most (steps ++ step ∷ []) (made ++ tried) state
  Makes : (steps : List Step) (made tried : List (Call × Reply)) (before state : Known) (step : Step) (tries : ℕ) (asked : StepCall)
      (reply : Reply) →
      RunsPatiently clients most steps made before → FindsNothing clients step before tries tried state → tries ≤ most →
      step_call clients state step ≡ Some asked → (finds_nothing reply ≡ false) ⊎ (tries ≡ most) →
      RunsPatiently clients most (steps ++ step ∷ []) (made ++ (tried ++ (asked.call, reply) ∷ [])) (state_after state step asked reply)

-- the first of the steps that are left, if there is one, was tried at most so often, and nothing was there
abbrev pub IsTried : List ℕ → ℕ → List Step → Known → List (Call × Reply) → Known → Type 0
IsTried clients most [] before tried state = (tried ≡ []) × (state ≡ before)
IsTried clients most (step ∷ left) before tried state =
    (tries : ℕ) × (tries ≤ most) × FindsNothing clients step before tries tried state

-- these calls and replies are a run of the first of these steps, and then of some tries of the next one
pub record RunsSome (clients : List ℕ) (most : ℕ) (steps : List Step) (made : List (Call × Reply)) (state : Known) : Type 0 where
  pub done : List Step
  pub left : List Step
  pub split : steps ≡ done ++ left
  pub before : Known
  pub ran : List (Call × Reply)
  pub tried : List (Call × Reply)
  pub runs : RunsPatiently clients most done ran before
  pub tries : IsTried clients most left before tried state
  pub made_are : made ≡ ran ++ tried
