-- A line that is a step.
use Rattle.actor_scripts.proofs.Common.{List, Reading, Some, Step, [], ap, length, map, option_and_then, option_map, sym, true, ℕ, ◌++◌}
use Rattle.actor_scripts.proofs.Common.{◌<◌, ◌∙◌, ◌∷◌, ◌≡◌}
use Rattle.std.proofs.Common.{slice_index_or, slice_set}
use Rattle.std.proofs.lemmas.List.{map-set, get_or-map}
use Rattle.actor_scripts.specs.declared.step.ActorScript.{ActorScript}
use Rattle.script_lines.specs.declared.label.Label.{Label}
use Rattle.script_lines.specs.declared.line.Line.{Line}
use Rattle.actor_scripts.specs.ActorLists.{steps_of, step_effect, with_step}
use Rattle.actor_scripts.specs.Steps.{Name, client_place, step_of}

-- one script of them gets one more step
pub scripts-on : (scripts : List ActorScript) (actor : ℕ) (old new : ActorScript) (step : Step) → actor < length scripts →
    old ≡ slice_index_or scripts actor old → steps_of new ≡ steps_of old ++ step ∷ [] →
    slice_set (map steps_of scripts) actor (slice_index_or (map steps_of scripts) actor [] ++ step ∷ [])
    ≡ map steps_of (slice_set scripts actor new)
scripts-on scripts actor old new step within is more =
    ap (λ (steps : List Step). slice_set (map steps_of scripts) actor steps)
    (ap (λ (steps : List Step). steps ++ step ∷ []) (get_or-map steps_of scripts actor old [] within ∙ ap steps_of (sym is)) ∙ sym more)
    ∙ sym (map-set steps_of scripts actor new)

module _ (so_far : Reading) (client : Label) (line : Line) where
  -- what the step leads to
  abbrev pub led : Step × List Name → ℕ → Reading
  led said actor = record so_far { actors = with_step so_far.actors actor said.0; named = said.1; begun = true }

  module _ (actor : ℕ) (place : client_place so_far.actors.labels client ≡ Some actor) where
    -- by the place of the client
    by_place : step_effect so_far client line
        ≡ option_map (λ (said : Step × List Name). led said actor) (step_of so_far.actors.labels so_far.named actor line)
    by_place = ap (option_and_then
        (λ (a : ℕ). option_map (λ (said : Step × List Name). led said a) (step_of so_far.actors.labels so_far.named a line))) place

    -- a line that reads as a step appends that step to the script of its client's actor
    pub stepped-on : (step : Step) (named : List Name) → step_of so_far.actors.labels so_far.named actor line ≡ Some (step, named) →
        step_effect so_far client line ≡ Some (led (step, named) actor)
    stepped-on step named is = by_place ∙ ap (option_map (λ (said : Step × List Name). led said actor)) is
