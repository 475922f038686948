-- Each goal that is proved at once by the tactic that is named.
use Rattle.std.proofs.Common.{arith}
use Rattle.std.proofs.lemmas.Grind.{common_steps}
use Rattle.forest_steps.proofs.initial_allocation.root_total.Goals as goal

pub loop-key-preserved : goal.loop-key-preserved
loop-key-preserved c = grind (arith, common_steps)

pub returns-clause-at_least : goal.returns-clause-at_least
returns-clause-at_least c = grind (arith, common_steps)

pub returns-clause-camping : goal.returns-clause-camping
returns-clause-camping c = grind (arith, common_steps)

pub returns-clause-size : goal.returns-clause-size
returns-clause-size c = grind (arith, common_steps)
