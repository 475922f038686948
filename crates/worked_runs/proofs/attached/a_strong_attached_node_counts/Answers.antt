use Rattle.std.proofs.Common.{refl}
use Rattle.worked_runs.proofs.Legal.{is_legal, is_not_legal}
use Rattle.worked_runs.proofs.attached.a_strong_attached_node_counts.Goals as goal

pub returns-clause-attached_keeps : goal.returns-clause-attached_keeps
returns-clause-attached_keeps c = is_legal _ _ _ refl refl refl

pub returns-clause-attached_token_keeps : goal.returns-clause-attached_token_keeps
returns-clause-attached_token_keeps c = is_legal _ _ _ refl refl refl

pub returns-clause-not_closed_1 : goal.returns-clause-not_closed_1
returns-clause-not_closed_1 c = is_not_legal _ _ _ refl refl

pub returns-clause-not_done : goal.returns-clause-not_done
returns-clause-not_done c = is_not_legal _ _ _ refl refl

pub returns-clause-not_closed_2 : goal.returns-clause-not_closed_2
returns-clause-not_closed_2 c = is_not_legal _ _ _ refl refl
