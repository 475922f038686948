use Rattle.forest_steps.proofs.Common.{arith}
use Rattle.forest_steps.proofs.lists.Ranges.{any_from}
use Rattle.forest_steps.proofs.dropped.is_any_open.Goals as goal

-- this one is not open
pub loop-index-preserved : goal.loop-index-preserved
loop-index-preserved c = grind (arith, any_from)
