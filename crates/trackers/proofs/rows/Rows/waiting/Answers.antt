use Rattle.trackers.proofs.Common.{arith, common_steps}
use Rattle.trackers.proofs.rows.Rows.waiting.Goals as goal

-- by arithmetic and the usual steps
pub overflow_sub-result : goal.overflow_sub-result
overflow_sub-result c = grind (arith, common_steps)

pub returns : goal.returns
returns c = grind (arith, common_steps)
