-- Which calls and replies are a run of a script.
use Rattle.std.specs.Prelude.{ℕ, ◌≡◌, List, [], ◌∷◌, ◌++◌, Some, None}
use Rattle.sm_names.specs.declared.messages.Call.{Call}
use Rattle.sm_names.specs.declared.messages.Reply.{Reply}
use Rattle.actor_scripts.specs.declared.step.Step.{Step}
use Rattle.actor_scripts.specs.declared.object.StepCall.{StepCall}
use Rattle.actor_scripts.specs.ActorStates.{Known, step_call, state_after, nothing_known}

-- these steps, one after another, make these calls on these replies, each once, where steps that are skipped make
-- none; `state` is what the actor then knows
pub data RunsScript (clients : List ℕ) : List Step → List (Call × Reply) → Known → Type 0 where
  Starts : RunsScript clients [] [] nothing_known
  Skips : (steps : List Step) (made : List (Call × Reply)) (state : Known) (step : Step) →
      RunsScript clients steps made state → step_call clients state step ≡ None →
      RunsScript clients (steps ++ step ∷ []) made state
  Makes : (steps : List Step) (made : List (Call × Reply)) (state : Known) (step : Step) (asked : StepCall) (reply : Reply) →
      RunsScript clients steps made state → step_call clients state step ≡ Some asked →
      RunsScript clients (steps ++ step ∷ []) (made ++ (asked.call, reply) ∷ []) (state_after state step asked reply)
