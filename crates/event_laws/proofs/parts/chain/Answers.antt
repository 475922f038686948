use Rattle.event_laws.proofs.Common.{arith, common_steps}
use Rattle.event_laws.proofs.parts.chain.Goals as goal

-- where nothing is chained yet, all numbers are 0
pub loop-passed-init : goal.loop-passed-init
loop-passed-init c = grind (arith, common_steps)

-- one event more, of a client that joined before it or not
pub loop-passed-preserved-then-client-passed : goal.loop-passed-preserved-then-client-passed
loop-passed-preserved-then-client-passed c = grind (arith, common_steps)

pub loop-passed-preserved : goal.loop-passed-preserved
loop-passed-preserved c = grind (arith, common_steps)
