use Rattle.std.proofs.Common.{refl}
use Rattle.worked_runs.proofs.Legal.{is_legal, is_not_legal}
use Rattle.worked_runs.proofs.answers.a_misuse_fails_the_node.Goals as goal

pub returns-clause-second_constraints : goal.returns-clause-second_constraints
returns-clause-second_constraints c = is_legal _ _ _ refl refl refl

pub returns-clause-late_weak : goal.returns-clause-late_weak
returns-clause-late_weak c = is_legal _ _ _ refl refl refl

pub returns-clause-late_weak_ok : goal.returns-clause-late_weak_ok
returns-clause-late_weak_ok c = is_legal _ _ _ refl refl refl

pub returns-clause-weak_takes_early : goal.returns-clause-weak_takes_early
returns-clause-weak_takes_early c = is_legal _ _ _ refl refl refl

pub returns-clause-misuse_before_limits : goal.returns-clause-misuse_before_limits
returns-clause-misuse_before_limits c = is_legal _ _ _ refl refl refl

pub returns-clause-not_done_1 : goal.returns-clause-not_done_1
returns-clause-not_done_1 c = is_not_legal _ _ _ refl refl

pub returns-clause-not_allocated_1 : goal.returns-clause-not_allocated_1
returns-clause-not_allocated_1 c = is_not_legal _ _ _ refl refl

pub returns-clause-not_done_2 : goal.returns-clause-not_done_2
returns-clause-not_done_2 c = is_not_legal _ _ _ refl refl

pub returns-clause-not_allocated_2 : goal.returns-clause-not_allocated_2
returns-clause-not_allocated_2 c = is_not_legal _ _ _ refl refl

pub returns-clause-not_done_3 : goal.returns-clause-not_done_3
returns-clause-not_done_3 c = is_not_legal _ _ _ refl refl

pub returns-clause-not_pending : goal.returns-clause-not_pending
returns-clause-not_pending c = is_not_legal _ _ _ refl refl

pub returns-clause-not_refused : goal.returns-clause-not_refused
returns-clause-not_refused c = is_not_legal _ _ _ refl refl
