use Rattle.std.proofs.Common.{refl}
use Rattle.worked_runs.proofs.Legal.{is_legal}
use Rattle.worked_runs.proofs.tracking.a_lifetime_tracker_waits_for_its_units_allocation.Goals as goal

pub returns-clause-few_left : goal.returns-clause-few_left
returns-clause-few_left c = is_legal _ _ _ refl refl refl

pub returns-clause-few_left_of_none : goal.returns-clause-few_left_of_none
returns-clause-few_left_of_none c = is_legal _ _ _ refl refl refl

pub returns-clause-tracker_of_an_ended : goal.returns-clause-tracker_of_an_ended
returns-clause-tracker_of_an_ended c = is_legal _ _ _ refl refl refl

pub returns-clause-tracker_of_an_unallocated_unit : goal.returns-clause-tracker_of_an_unallocated_unit
returns-clause-tracker_of_an_unallocated_unit c = is_legal _ _ _ refl refl refl
