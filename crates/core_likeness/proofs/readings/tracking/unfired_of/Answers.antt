use Rattle.core_likeness.proofs.Common.{arith, common_steps, filter-append, map-append}
use Rattle.core_likeness.proofs.readings.tracking.unfired_of.Goals as goal

-- one more comes last, or is left out
pub loop-tracker-preserved : goal.loop-tracker-preserved
loop-tracker-preserved c = grind (arith, common_steps, map-append, filter-append)
