use Rattle.std.proofs.Common.{refl}
use Rattle.worked_runs.proofs.Legal.{is_legal, is_not_legal}
use Rattle.worked_runs.proofs.attached.attached_subtrees_wait_for_the_one_above.Goals as goal

pub returns-clause-two_attached : goal.returns-clause-two_attached
returns-clause-two_attached c = is_legal _ _ _ refl refl refl

pub returns-clause-nested_attached : goal.returns-clause-nested_attached
returns-clause-nested_attached c = is_legal _ _ _ refl refl refl

pub returns-clause-unready_below : goal.returns-clause-unready_below
returns-clause-unready_below c = is_legal _ _ _ refl refl refl

pub returns-clause-checked_by_its_unit : goal.returns-clause-checked_by_its_unit
returns-clause-checked_by_its_unit c = is_legal _ _ _ refl refl refl

pub returns-clause-not_allocated_1 : goal.returns-clause-not_allocated_1
returns-clause-not_allocated_1 c = is_not_legal _ _ _ refl refl

pub returns-clause-not_closed : goal.returns-clause-not_closed
returns-clause-not_closed c = is_not_legal _ _ _ refl refl

pub returns-clause-not_allocated_2 : goal.returns-clause-not_allocated_2
returns-clause-not_allocated_2 c = is_not_legal _ _ _ refl refl

pub returns-clause-not_allocated_3 : goal.returns-clause-not_allocated_3
returns-clause-not_allocated_3 c = is_not_legal _ _ _ refl refl

pub returns-clause-not_pending_1 : goal.returns-clause-not_pending_1
returns-clause-not_pending_1 c = is_not_legal _ _ _ refl refl

pub returns-clause-not_pending_2 : goal.returns-clause-not_pending_2
returns-clause-not_pending_2 c = is_not_legal _ _ _ refl refl

pub returns-clause-not_allocated_4 : goal.returns-clause-not_allocated_4
returns-clause-not_allocated_4 c = is_not_legal _ _ _ refl refl
