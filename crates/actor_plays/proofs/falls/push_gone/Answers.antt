use Rattle.actor_plays.proofs.Common.{append_assoc, arith, common_steps, filter-append, map-append}
use Rattle.actor_plays.proofs.falls.push_gone.Goals as goal

-- one more comes last, or is left out
pub loop-node-preserved : goal.loop-node-preserved
loop-node-preserved c = grind (arith, common_steps, append_assoc, map-append, filter-append)
