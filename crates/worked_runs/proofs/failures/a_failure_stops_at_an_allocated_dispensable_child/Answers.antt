use Rattle.std.proofs.Common.{refl}
use Rattle.worked_runs.proofs.Legal.{is_legal}
use Rattle.worked_runs.proofs.failures.a_failure_stops_at_an_allocated_dispensable_child.Goals as goal

pub returns-clause-dispensable_lost_before : goal.returns-clause-dispensable_lost_before
returns-clause-dispensable_lost_before c = is_legal _ _ _ refl refl refl

pub returns-clause-dispensable_lost_after : goal.returns-clause-dispensable_lost_after
returns-clause-dispensable_lost_after c = is_legal _ _ _ refl refl refl
