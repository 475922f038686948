use Rattle.outcome_texts.proofs.Common.{append_assoc, arith, common_steps, flat_map_more}
use Rattle.outcome_texts.proofs.list.push_all_made.Goals as goal

-- one more comes last
pub made-preserved : goal.made-preserved
made-preserved c = grind (arith, common_steps, append_assoc, flat_map_more)
