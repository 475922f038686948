-- Each goal that is proved at once by the tactic that is named.
use Rattle.forced_marks.proofs.Common.{arith, common_steps}
use Rattle.forced_marks.proofs.node_sets.blocking_nodes.Goals as goal

pub loop-node-preserved : goal.loop-node-preserved
loop-node-preserved c = grind (arith, common_steps)

pub returns : goal.returns
returns c = grind (arith, common_steps)
