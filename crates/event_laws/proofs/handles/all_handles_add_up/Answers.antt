use Rattle.event_laws.proofs.HandleSumLaws.{all_open_adds, all_moving_adds, all_client_adds}
use Rattle.event_laws.proofs.handles.all_handles_add_up.Goals as goal

pub returns-clause-in_all : goal.returns-clause-in_all
returns-clause-in_all c = all_open_adds

pub returns-clause-in_parcels : goal.returns-clause-in_parcels
returns-clause-in_parcels c = all_moving_adds

pub returns-clause-each : goal.returns-clause-each
returns-clause-each c = all_client_adds
