-- Each goal that is proved at once by the tactic that is named.
use Rattle.forced_marks.proofs.Common.{arith, common_steps}
use Rattle.forced_marks.proofs.forced_steps.all_pages.Goals as goal

pub loop-buffer-preserved : goal.loop-buffer-preserved
loop-buffer-preserved c = grind (arith, common_steps)

pub returns : goal.returns
returns c = grind (arith, common_steps)
