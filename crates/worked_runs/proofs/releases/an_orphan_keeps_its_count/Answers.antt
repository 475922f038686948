use Rattle.std.proofs.Common.{refl}
use Rattle.worked_runs.proofs.Legal.{is_legal, is_not_legal}
use Rattle.worked_runs.proofs.releases.an_orphan_keeps_its_count.Goals as goal

pub returns-clause-failed_counts_return : goal.returns-clause-failed_counts_return
returns-clause-failed_counts_return c = is_legal _ _ _ refl refl refl

pub returns-clause-released_counts_stay : goal.returns-clause-released_counts_stay
returns-clause-released_counts_stay c = is_legal _ _ _ refl refl refl

pub returns-clause-not_closed : goal.returns-clause-not_closed
returns-clause-not_closed c = is_not_legal _ _ _ refl refl

pub returns-clause-not_allocated_1 : goal.returns-clause-not_allocated_1
returns-clause-not_allocated_1 c = is_not_legal _ _ _ refl refl

pub returns-clause-not_allocated_2 : goal.returns-clause-not_allocated_2
returns-clause-not_allocated_2 c = is_not_legal _ _ _ refl refl
