use Rattle.outcome_texts.proofs.Common.{add-one, arith, common_steps}
use Rattle.outcome_texts.proofs.Letting.{may_more}
use Rattle.outcome_texts.proofs.who.may_vanish.Goals as goal

-- one more line is looked at
pub texts-preserved : goal.texts-preserved
texts-preserved c = grind (arith, common_steps, add-one, may_more)
