use Rattle.std.proofs.Common.{refl}
use Rattle.worked_runs.proofs.Legal.{is_legal, is_not_legal}
use Rattle.worked_runs.proofs.failures.the_first_failure_is_told.Goals as goal

pub returns-clause-failed_and_then_lost : goal.returns-clause-failed_and_then_lost
returns-clause-failed_and_then_lost c = is_legal _ _ _ refl refl refl

pub returns-clause-failed_and_abandoned : goal.returns-clause-failed_and_abandoned
returns-clause-failed_and_abandoned c = is_legal _ _ _ refl refl refl

pub returns-clause-not_closed_1 : goal.returns-clause-not_closed_1
returns-clause-not_closed_1 c = is_not_legal _ _ _ refl refl

pub returns-clause-not_closed_2 : goal.returns-clause-not_closed_2
returns-clause-not_closed_2 c = is_not_legal _ _ _ refl refl
