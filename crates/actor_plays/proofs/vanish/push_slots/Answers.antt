use Rattle.actor_plays.proofs.Common.{append_assoc, arith, common_steps, flat_map_more}
use Rattle.actor_plays.proofs.vanish.push_slots.Goals as goal

-- one more comes last, or is left out
pub loop-slot-preserved : goal.loop-slot-preserved
loop-slot-preserved c = grind (arith, common_steps, append_assoc, flat_map_more)
