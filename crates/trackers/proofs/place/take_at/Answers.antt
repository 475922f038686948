use Rattle.trackers.proofs.Common.{arith, common_steps}
use Rattle.trackers.proofs.place.take_at.Goals as goal

-- by arithmetic and the usual steps
pub returns-in-InSlot-clause-taken : goal.returns-in-InSlot-clause-taken
returns-in-InSlot-clause-taken c = grind (arith, common_steps)

pub returns-in-InSlot-clause-kept : goal.returns-in-InSlot-clause-kept
returns-in-InSlot-clause-kept c = grind (arith, common_steps)
