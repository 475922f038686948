use Rattle.outcome_texts.proofs.Common.{append_assoc, arith, common_steps, flat_map_more}
use Rattle.outcome_texts.proofs.vanishing.push_others.Goals as goal

-- one more comes last
pub loop-actor-preserved : goal.loop-actor-preserved
loop-actor-preserved c = grind (arith, common_steps, append_assoc, flat_map_more)
