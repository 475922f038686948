-- Each goal that is proved at once by the tactic that is named.
use Rattle.lifetime_core.proofs.Common.{rules}
use Rattle.lifetime_core.proofs.task.task_of.Goals as goal

pub done_task-requires-clause-node : goal.done_task-requires-clause-node
done_task-requires-clause-node c = search rules

pub done_task-requires-clause-there : goal.done_task-requires-clause-there
done_task-requires-clause-there c = search rules

pub returns-in_default-clause-some : goal.returns-in_default-clause-some
returns-in_default-clause-some c = search rules

pub returns-in_default-clause-spends : goal.returns-in_default-clause-spends
returns-in_default-clause-spends c = search rules

pub returns-in_default-clause-there : goal.returns-in_default-clause-there
returns-in_default-clause-there c = search rules

pub returns-in_default-clause-work : goal.returns-in_default-clause-work
returns-in_default-clause-work c = search rules
