use Rattle.outcome_texts.proofs.Common.{append_assoc, arith, common_steps}
use Rattle.outcome_texts.proofs.Calling.{calls_next}
use Rattle.outcome_texts.proofs.calls.calls_in.Goals as goal

-- the call of the next turn comes behind those that are there
pub turns-preserved : goal.turns-preserved
turns-preserved c = grind (arith, common_steps, append_assoc, calls_next)
