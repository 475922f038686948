use Rattle.core_likeness.proofs.Common.{arith, common_steps}
use Rattle.sm_names.proofs.ListLaws.{times-append}
use Rattle.core_likeness.proofs.readings.clients.count_collected.Goals as goal

-- one more, if it is one
pub loop-entry-preserved : goal.loop-entry-preserved
loop-entry-preserved c = grind (arith, common_steps, times-append)
