use Rattle.std.proofs.Common.{refl}
use Rattle.worked_runs.proofs.Legal.{is_legal}
use Rattle.worked_runs.proofs.parcels.a_parcel_of_a_gone_node_is_collected.Goals as goal

pub returns-clause-parcel_of_a_lost_node : goal.returns-clause-parcel_of_a_lost_node
returns-clause-parcel_of_a_lost_node c = is_legal _ _ _ refl refl refl

pub returns-clause-lost_in_transit : goal.returns-clause-lost_in_transit
returns-clause-lost_in_transit c = is_legal _ _ _ refl refl refl
