use Rattle.outcome_texts.proofs.Common.{append_assoc, arith, common_steps, flat_map_more}
use Rattle.outcome_texts.proofs.script.push_calls.Goals as goal

-- one more comes last
pub loop-call-preserved : goal.loop-call-preserved
loop-call-preserved c = grind (arith, common_steps, append_assoc, flat_map_more)
