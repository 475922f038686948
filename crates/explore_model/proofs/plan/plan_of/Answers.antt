use Rattle.std.proofs.Common.{arith, add-one}
use Rattle.std.proofs.lemmas.Grind.{common_steps}
use Rattle.explore_model.proofs.plan.plan_of.Goals as goal

-- one more is planned
pub loop-at-preserved : goal.loop-at-preserved
loop-at-preserved c = grind (arith, common_steps, add-one)
