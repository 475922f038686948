-- Each goal that is proved at once by the tactic that is named.
use Rattle.lifetime_core.proofs.Common.{rules}
use Rattle.lifetime_core.proofs.task.make_change.Goals as goal

pub settle_drop-requires-clause-pool : goal.settle_drop-requires-clause-pool
settle_drop-requires-clause-pool c = search rules

pub returns : goal.returns
returns c = search rules

pub returns-in_default-clause-kept : goal.returns-in_default-clause-kept
returns-in_default-clause-kept c = search rules

pub returns-in_default-clause-pool : goal.returns-in_default-clause-pool
returns-in_default-clause-pool c = search rules

pub returns-in_default-clause-size : goal.returns-in_default-clause-size
returns-in_default-clause-size c = search rules

pub returns-in_default-clause-why : goal.returns-in_default-clause-why
returns-in_default-clause-why c = search rules

pub returns-in_default-clause-work : goal.returns-in_default-clause-work
returns-in_default-clause-work c = search rules

pub settle_drop-requires-clause-others : goal.settle_drop-requires-clause-others
settle_drop-requires-clause-others c = search rules
