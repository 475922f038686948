-- Each goal that is proved at once by the tactic that is named.
use Rattle.std.proofs.Common.{arith, rules}
use Rattle.std.proofs.lemmas.Grind.{common_steps}
use Rattle.forest_store.proofs.unit_counts.grow_to.Goals as goal

pub returns-then-is_err-clause-ok : goal.returns-then-is_err-clause-ok
returns-then-is_err-clause-ok c = search rules

pub on-init : goal.on-init
on-init c = search rules

pub returns-clause-extends : goal.returns-clause-extends
returns-clause-extends c = search rules

pub returns-clause-ok : goal.returns-clause-ok
returns-clause-ok c = search rules

pub returns-then-is_err-clause-extends : goal.returns-then-is_err-clause-extends
returns-then-is_err-clause-extends c = search rules

pub on-preserved : goal.on-preserved
on-preserved c = grind (arith, common_steps)
