use Rattle.core_state.proofs.Common.{arith, common_steps}
use Rattle.core_state.proofs.end_answers.answer_of_end.Goals as goal

pub returns-in-Some : goal.returns-in-Some
returns-in-Some c = grind (arith, common_steps)

pub returns : goal.returns
returns c = grind (arith, common_steps)
