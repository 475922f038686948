use Rattle.event_facts.proofs.Common.{arith, common_steps, filter-append, map-append}
use Rattle.event_facts.proofs.waits.awaited.Goals as goal

-- one more comes last, or is left out
pub loop-node-preserved : goal.loop-node-preserved
loop-node-preserved c = grind (arith, common_steps, map-append, filter-append)
