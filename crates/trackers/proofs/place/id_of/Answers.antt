use Rattle.trackers.proofs.Common.{arith, common_steps}
use Rattle.trackers.proofs.place.id_of.Goals as goal

-- by arithmetic and the usual steps
pub returns-else-number-fired : goal.returns-else-number-fired
returns-else-number-fired c = grind (arith, common_steps)
