use Rattle.outcome_texts.proofs.Common.{add-one, append_assoc, arith, common_steps}
use Rattle.outcome_texts.proofs.list.push_actors.Goals as goal

-- one more comes last
pub actors-preserved : goal.actors-preserved
actors-preserved c = grind (arith, common_steps, add-one, append_assoc)
