use Rattle.std.proofs.Common.{refl}
use Rattle.worked_runs.proofs.Legal.{is_legal, is_not_legal}
use Rattle.worked_runs.proofs.attached.an_attached_failure_stops.Goals as goal

pub returns-clause-legal : goal.returns-clause-legal
returns-clause-legal c = is_legal _ _ _ refl refl refl

pub returns-clause-not_closed : goal.returns-clause-not_closed
returns-clause-not_closed c = is_not_legal _ _ _ refl refl

pub returns-clause-not_refused : goal.returns-clause-not_refused
returns-clause-not_refused c = is_not_legal _ _ _ refl refl
