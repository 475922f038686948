use Rattle.picture_model.proofs.Common.{arith, common_steps}
use Rattle.picture_model.proofs.Lasts.{walked-last}
use Rattle.picture_model.proofs.picture_state.last_walked.Goals as goal

-- the last mark decides
pub returns-in-Some : goal.returns-in-Some
returns-in-Some c = grind (arith, common_steps, walked-last)
