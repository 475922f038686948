-- Each goal that is proved at once by the tactic that is named.
use Rattle.forced_marks.proofs.Common.{arith, common_steps}
use Rattle.forced_marks.proofs.losses.highest.Goals as goal

pub returns : goal.returns
returns c = grind (arith, common_steps)

pub returns-in_default-parent : goal.returns-in_default-parent
returns-in_default-parent c = grind (arith, common_steps)

pub returns-then-has : goal.returns-then-has
returns-then-has c = grind (arith, common_steps)

pub up-preserved : goal.up-preserved
up-preserved c = grind (arith, common_steps)
