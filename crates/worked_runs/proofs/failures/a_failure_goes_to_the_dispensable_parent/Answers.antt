use Rattle.std.proofs.Common.{refl}
use Rattle.worked_runs.proofs.Legal.{is_legal, is_not_legal}
use Rattle.worked_runs.proofs.failures.a_failure_goes_to_the_dispensable_parent.Goals as goal

pub returns-clause-child_of_dispensable_lost : goal.returns-clause-child_of_dispensable_lost
returns-clause-child_of_dispensable_lost c = is_legal _ _ _ refl refl refl

pub returns-clause-dispensable_after_its_child : goal.returns-clause-dispensable_after_its_child
returns-clause-dispensable_after_its_child c = is_legal _ _ _ refl refl refl

pub returns-clause-not_allocated : goal.returns-clause-not_allocated
returns-clause-not_allocated c = is_not_legal _ _ _ refl refl

pub returns-clause-not_closed_1 : goal.returns-clause-not_closed_1
returns-clause-not_closed_1 c = is_not_legal _ _ _ refl refl

pub returns-clause-not_closed_2 : goal.returns-clause-not_closed_2
returns-clause-not_closed_2 c = is_not_legal _ _ _ refl refl
