use Rattle.std.proofs.Common.{refl}
use Rattle.worked_runs.proofs.Legal.{is_legal, is_not_legal}
use Rattle.worked_runs.proofs.parcels.a_shut_client_lets_go.Goals as goal

pub returns-clause-legal : goal.returns-clause-legal
returns-clause-legal c = is_legal _ _ _ refl refl refl

pub returns-clause-not_refused_1 : goal.returns-clause-not_refused_1
returns-clause-not_refused_1 c = is_not_legal _ _ _ refl refl

pub returns-clause-not_refused_2 : goal.returns-clause-not_refused_2
returns-clause-not_refused_2 c = is_not_legal _ _ _ refl refl

pub returns-clause-not_refused_3 : goal.returns-clause-not_refused_3
returns-clause-not_refused_3 c = is_not_legal _ _ _ refl refl

pub returns-clause-not_token : goal.returns-clause-not_token
returns-clause-not_token c = is_not_legal _ _ _ refl refl

pub returns-clause-not_refused_4 : goal.returns-clause-not_refused_4
returns-clause-not_refused_4 c = is_not_legal _ _ _ refl refl

pub returns-clause-not_collection : goal.returns-clause-not_collection
returns-clause-not_collection c = is_not_legal _ _ _ refl refl
