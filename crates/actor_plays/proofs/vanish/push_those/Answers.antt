use Rattle.actor_plays.proofs.Common.{append_assoc, arith, common_steps, flat_map_more}
use Rattle.actor_plays.proofs.vanish.push_those.Goals as goal

-- one more comes last, or is left out
pub loop-object-preserved : goal.loop-object-preserved
loop-object-preserved c = grind (arith, common_steps, append_assoc, flat_map_more)
