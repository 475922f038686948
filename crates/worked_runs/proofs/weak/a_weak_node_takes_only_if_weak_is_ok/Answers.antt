use Rattle.std.proofs.Common.{refl}
use Rattle.worked_runs.proofs.Legal.{is_legal, is_not_legal}
use Rattle.worked_runs.proofs.weak.a_weak_node_takes_only_if_weak_is_ok.Goals as goal

pub returns-clause-weak_not_ok : goal.returns-clause-weak_not_ok
returns-clause-weak_not_ok c = is_legal _ _ _ refl refl refl

pub returns-clause-weak_ok_for_children : goal.returns-clause-weak_ok_for_children
returns-clause-weak_ok_for_children c = is_legal _ _ _ refl refl refl

pub returns-clause-weak_ok_stays : goal.returns-clause-weak_ok_stays
returns-clause-weak_ok_stays c = is_legal _ _ _ refl refl refl

pub returns-clause-weak_ok_too_late : goal.returns-clause-weak_ok_too_late
returns-clause-weak_ok_too_late c = is_legal _ _ _ refl refl refl

pub returns-clause-not_taken_1 : goal.returns-clause-not_taken_1
returns-clause-not_taken_1 c = is_not_legal _ _ _ refl refl

pub returns-clause-not_allocated : goal.returns-clause-not_allocated
returns-clause-not_allocated c = is_not_legal _ _ _ refl refl

pub returns-clause-not_misused_1 : goal.returns-clause-not_misused_1
returns-clause-not_misused_1 c = is_not_legal _ _ _ refl refl

pub returns-clause-not_taken_2 : goal.returns-clause-not_taken_2
returns-clause-not_taken_2 c = is_not_legal _ _ _ refl refl

pub returns-clause-not_misused_2 : goal.returns-clause-not_misused_2
returns-clause-not_misused_2 c = is_not_legal _ _ _ refl refl

pub returns-clause-not_taken_3 : goal.returns-clause-not_taken_3
returns-clause-not_taken_3 c = is_not_legal _ _ _ refl refl
