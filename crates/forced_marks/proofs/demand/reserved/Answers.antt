-- Each goal that is proved at once by the tactic that is named.
use Rattle.forced_marks.proofs.Common.{arith, common_steps}
use Rattle.forced_marks.proofs.demand.reserved.Goals as goal

pub loop-node-preserved : goal.loop-node-preserved
loop-node-preserved c = grind (arith, common_steps)

pub returns-clause-few : goal.returns-clause-few
returns-clause-few c = grind (arith, common_steps)

pub returns-clause-value : goal.returns-clause-value
returns-clause-value c = grind (arith, common_steps)
