use Rattle.core_likeness.proofs.Common.{arith, common_steps, filter_map-append}
use Rattle.core_likeness.proofs.readings.roots.collect_roots.Goals as goal

-- one more comes last, or none
pub loop-entry-preserved : goal.loop-entry-preserved
loop-entry-preserved c = grind (arith, common_steps, filter_map-append)
