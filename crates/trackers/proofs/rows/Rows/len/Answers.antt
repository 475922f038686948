use Rattle.trackers.proofs.Common.{arith, common_steps}
use Rattle.trackers.proofs.rows.Rows.len.Goals as goal

-- by arithmetic and the usual steps
pub returns : goal.returns
returns c = grind (arith, common_steps)
