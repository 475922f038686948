use Rattle.std.proofs.Common.{refl}
use Rattle.worked_runs.proofs.Legal.{is_legal, is_not_legal}
use Rattle.worked_runs.proofs.weak.weak_ok_reaches_all_descendants.Goals as goal

pub returns-clause-weak_ok_for_grandchildren : goal.returns-clause-weak_ok_for_grandchildren
returns-clause-weak_ok_for_grandchildren c = is_legal _ _ _ refl refl refl

pub returns-clause-attached_to_weak : goal.returns-clause-attached_to_weak
returns-clause-attached_to_weak c = is_legal _ _ _ refl refl refl

pub returns-clause-weak_ok_across_attached : goal.returns-clause-weak_ok_across_attached
returns-clause-weak_ok_across_attached c = is_legal _ _ _ refl refl refl

pub returns-clause-not_misused_1 : goal.returns-clause-not_misused_1
returns-clause-not_misused_1 c = is_not_legal _ _ _ refl refl

pub returns-clause-not_taken : goal.returns-clause-not_taken
returns-clause-not_taken c = is_not_legal _ _ _ refl refl

pub returns-clause-not_misused_2 : goal.returns-clause-not_misused_2
returns-clause-not_misused_2 c = is_not_legal _ _ _ refl refl
