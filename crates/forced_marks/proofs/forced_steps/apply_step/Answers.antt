-- Each goal that is proved at once by the tactic that is named.
use Rattle.forced_marks.proofs.Common.{arith, common_steps, rules}
use Rattle.forced_marks.proofs.forced_steps.apply_step.Goals as goal

pub returns-in-Places-clause-made : goal.returns-in-Places-clause-made
returns-in-Places-clause-made c = search rules

pub allocate_root-requires-clause-sized : goal.allocate_root-requires-clause-sized
allocate_root-requires-clause-sized c = search rules

pub allocate_root-requires-clause-step : goal.allocate_root-requires-clause-step
allocate_root-requires-clause-step c = search rules

pub returns-in-Allocates-clause-mark : goal.returns-in-Allocates-clause-mark
returns-in-Allocates-clause-mark c = search rules

pub returns-in-Places-clause-mark : goal.returns-in-Places-clause-mark
returns-in-Places-clause-mark c = search rules

pub returns-in_ok-end_subtree-in-Ends-clause-mark : goal.returns-in_ok-end_subtree-in-Ends-clause-mark
returns-in_ok-end_subtree-in-Ends-clause-mark c = search rules

pub returns-in_ok-lose-in-Loses-clause-mark : goal.returns-in_ok-lose-in-Loses-clause-mark
returns-in_ok-lose-in-Loses-clause-mark c = search rules

pub returns-in-Allocates-clause-made : goal.returns-in-Allocates-clause-made
returns-in-Allocates-clause-made c = grind (arith, common_steps)

pub returns-in_ok-end_subtree-in-Ends-clause-made : goal.returns-in_ok-end_subtree-in-Ends-clause-made
returns-in_ok-end_subtree-in-Ends-clause-made c = grind (arith, common_steps)

pub returns-in_ok-lose-in-Loses-clause-made : goal.returns-in_ok-lose-in-Loses-clause-made
returns-in_ok-lose-in-Loses-clause-made c = grind (arith, common_steps)
