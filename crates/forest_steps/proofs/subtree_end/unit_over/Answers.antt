-- Each goal that is proved at once by the tactic that is named.
use Rattle.std.proofs.Common.{rules}
use Rattle.forest_steps.proofs.subtree_end.unit_over.Goals as goal

pub returns-else-unit-eq0-clause-there : goal.returns-else-unit-eq0-clause-there
returns-else-unit-eq0-clause-there c = search rules

pub returns-else-unit-eq0-clause-over : goal.returns-else-unit-eq0-clause-over
returns-else-unit-eq0-clause-over c = search rules

pub returns-then-unit-eq1-clause-over : goal.returns-then-unit-eq1-clause-over
returns-then-unit-eq1-clause-over c = search rules

pub returns-then-unit-eq1-clause-there : goal.returns-then-unit-eq1-clause-there
returns-then-unit-eq1-clause-there c = search rules
