use Rattle.play_search.proofs.Common.{map, take, ◌≡◌}
use Rattle.actor_scripts.specs.declared.step.ActorScript.{ActorScript}
use Rattle.explore_model.specs.Plans.{planned, steps_of}
use Rattle.play_search.proofs.replay.plans_of.Given as goal

-- so far the plans of these scripts
abbrev pub invariant-loop-script : goal.invariant-loop-script
invariant-loop-script l = map steps_of l.plans.items
    ≡ map (λ (script : ActorScript). planned l.waiting script.steps.items) (take l.script-index l.scripts)
