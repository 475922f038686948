use Rattle.core_vanish.proofs.StepLemmas.{step_full, step_goes_on, step_made, step_none}
use Rattle.core_vanish.proofs.vanishing.make.Goals as goal

pub returns-clause-made : goal.returns-clause-made
returns-clause-made c =
    step_made c.args.core.now c.step.new.self c.args.client c.args.call c.step.result c.requires c.step.ensures.kind c.step.ensures.after
    (step_goes_on c.args.core.now c.step.new.self c.args.client c.args.call c.step.result c.step.ensures.answer c.step.ensures.after
    c.step.ensures.full) c.step.ensures.untaken

pub returns-clause-none : goal.returns-clause-none
returns-clause-none c = step_none c.args.core.now c.step.new.self c.step.result c.step.ensures.kept

pub returns-clause-full : goal.returns-clause-full
returns-clause-full c = step_full c.args.core.now c.step.new.self c.step.result c.step.ensures.equal c.step.ensures.full
