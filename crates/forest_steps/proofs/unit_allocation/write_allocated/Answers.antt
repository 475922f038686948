-- Each goal that is proved at once by the tactic that is named.
use Rattle.std.proofs.Common.{rules}
use Rattle.forest_steps.proofs.unit_allocation.write_allocated.Goals as goal

pub returns-in_default-clause-becomes : goal.returns-in_default-clause-becomes
returns-in_default-clause-becomes c = search rules

pub returns-in_default-clause-writes : goal.returns-in_default-clause-writes
returns-in_default-clause-writes c = search rules
