use Rattle.std.proofs.Common.{refl}
use Rattle.worked_runs.proofs.Legal.{is_legal}
use Rattle.worked_runs.proofs.failures.a_failure_passes_through_an_orphan.Goals as goal

pub returns-clause-legal : goal.returns-clause-legal
returns-clause-legal c = is_legal _ _ _ refl refl refl
