use Rattle.std.proofs.Common.{refl}
use Rattle.worked_runs.proofs.Legal.{is_legal}
use Rattle.worked_runs.proofs.failures.ends_are_spent_once.Goals as goal

pub returns-clause-legal : goal.returns-clause-legal
returns-clause-legal c = is_legal _ _ _ refl refl refl
