use Rattle.std.proofs.Common.{refl}
use Rattle.worked_runs.proofs.Legal.{is_legal, is_not_legal}
use Rattle.worked_runs.proofs.attached.an_attached_subtree_ends.Goals as goal

pub returns-clause-attached_released : goal.returns-clause-attached_released
returns-clause-attached_released c = is_legal _ _ _ refl refl refl

pub returns-clause-attached_with_a_child : goal.returns-clause-attached_with_a_child
returns-clause-attached_with_a_child c = is_legal _ _ _ refl refl refl

pub returns-clause-attached_below_attached : goal.returns-clause-attached_below_attached
returns-clause-attached_below_attached c = is_legal _ _ _ refl refl refl

pub returns-clause-not_closed_1 : goal.returns-clause-not_closed_1
returns-clause-not_closed_1 c = is_not_legal _ _ _ refl refl

pub returns-clause-not_allocated_1 : goal.returns-clause-not_allocated_1
returns-clause-not_allocated_1 c = is_not_legal _ _ _ refl refl

pub returns-clause-not_closed_2 : goal.returns-clause-not_closed_2
returns-clause-not_closed_2 c = is_not_legal _ _ _ refl refl

pub returns-clause-not_allocated_2 : goal.returns-clause-not_allocated_2
returns-clause-not_allocated_2 c = is_not_legal _ _ _ refl refl
