use Rattle.std.proofs.Common.{refl}
use Rattle.worked_runs.proofs.Legal.{is_legal, is_not_legal}
use Rattle.worked_runs.proofs.attached.an_attached_subtree_fails_alone.Goals as goal

pub returns-clause-too_large : goal.returns-clause-too_large
returns-clause-too_large c = is_legal _ _ _ refl refl refl

pub returns-clause-at_least_two : goal.returns-clause-at_least_two
returns-clause-at_least_two c = is_legal _ _ _ refl refl refl

pub returns-clause-too_few_and_too_small : goal.returns-clause-too_few_and_too_small
returns-clause-too_few_and_too_small c = is_legal _ _ _ refl refl refl

pub returns-clause-bytes_and_not_pages : goal.returns-clause-bytes_and_not_pages
returns-clause-bytes_and_not_pages c = is_legal _ _ _ refl refl refl

pub returns-clause-not_allocated_1 : goal.returns-clause-not_allocated_1
returns-clause-not_allocated_1 c = is_not_legal _ _ _ refl refl

pub returns-clause-not_allocated_2 : goal.returns-clause-not_allocated_2
returns-clause-not_allocated_2 c = is_not_legal _ _ _ refl refl

pub returns-clause-not_closed_1 : goal.returns-clause-not_closed_1
returns-clause-not_closed_1 c = is_not_legal _ _ _ refl refl

pub returns-clause-not_allocated_3 : goal.returns-clause-not_allocated_3
returns-clause-not_allocated_3 c = is_not_legal _ _ _ refl refl

pub returns-clause-not_closed_2 : goal.returns-clause-not_closed_2
returns-clause-not_closed_2 c = is_not_legal _ _ _ refl refl

pub returns-clause-not_allocated_4 : goal.returns-clause-not_allocated_4
returns-clause-not_allocated_4 c = is_not_legal _ _ _ refl refl
