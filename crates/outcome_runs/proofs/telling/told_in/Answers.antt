use Rattle.std.proofs.Common.{◌∙◌, List, ap, map}
use Rattle.std.proofs.lemmas.Result.{IfErr-weaker, IfOk-weaker}
use Rattle.actor_scripts.specs.declared.step.ActorScript.{ActorScript}
use Rattle.explore_model.specs.Plans.{planned}
use Rattle.outcome_runs.proofs.Reading.{unheld_in}
use Rattle.outcome_runs.proofs.telling.told_in.Goals as goal

-- what is told by the plans of the list
pub returns-in-Ok-clause-ok : goal.returns-in-Ok-clause-ok
returns-in-Ok-clause-ok g c = IfOk-weaker c.told_by.result _ _
    (λ told is. record {
      plans = c.in-Ok.plans.items;
      planned_steps = c.in-Ok.ensures
          ∙ ap (λ (scripts : List ActorScript). map (λ (one : ActorScript). planned c.args.job.waiting one.steps.items) scripts)
          c.deref.ensures.value;
      seed = c.args.seed;
      told = is;
    }) (rw c.deref-in-Ok.ensures.value at c.told_by.ensures.ok)

pub returns-in-Ok-clause-err : goal.returns-in-Ok-clause-err
returns-in-Ok-clause-err g c = IfErr-weaker c.told_by.result _ _
    (λ fault why. unheld_in c.args.job c.args.script.now c.args.list.now c.in-Ok.plans.items fault (c.in-Ok.ensures
    ∙ ap (λ (scripts : List ActorScript). map (λ (one : ActorScript). planned c.args.job.waiting one.steps.items) scripts)
    c.deref.ensures.value) why)
    (rw c.deref-in-Ok.ensures.value at c.told_by.ensures.err)
