use Rattle.std.proofs.Common.{refl}
use Rattle.worked_runs.proofs.Legal.{is_legal}
use Rattle.worked_runs.proofs.parcels.a_handle_travels.Goals as goal

pub returns-clause-handle_travels : goal.returns-clause-handle_travels
returns-clause-handle_travels c = is_legal _ _ _ refl refl refl

pub returns-clause-handle_to_a_shut_client : goal.returns-clause-handle_to_a_shut_client
returns-clause-handle_to_a_shut_client c = is_legal _ _ _ refl refl refl

pub returns-clause-handles_counted : goal.returns-clause-handles_counted
returns-clause-handles_counted c = is_legal _ _ _ refl refl refl
