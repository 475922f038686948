use Rattle.actor_plays.proofs.Common.{append_assoc, arith, common_steps, flat_map_more, map-append}
use Rattle.actor_plays.proofs.falls.push_falls.Goals as goal

-- those of one more mark come last
pub loop-moment-preserved : goal.loop-moment-preserved
loop-moment-preserved c = grind (arith, common_steps, append_assoc, map-append, flat_map_more)
