use Rattle.std.proofs.Common.{refl}
use Rattle.worked_runs.proofs.Legal.{is_legal}
use Rattle.worked_runs.proofs.parcels.an_end_waits_in_a_parcel.Goals as goal

pub returns-clause-end_given_to_itself : goal.returns-clause-end_given_to_itself
returns-clause-end_given_to_itself c = is_legal _ _ _ refl refl refl

pub returns-clause-end_given_to_another : goal.returns-clause-end_given_to_another
returns-clause-end_given_to_another c = is_legal _ _ _ refl refl refl
