use Rattle.picture_model.proofs.Common.{arith, common_steps}
use Rattle.picture_model.proofs.Lasts.{top-last}
use Rattle.picture_model.proofs.picture_state.last_key.Goals as goal

-- the last key is on top
pub returns-in-Some : goal.returns-in-Some
returns-in-Some c = grind (arith, common_steps, top-last)
