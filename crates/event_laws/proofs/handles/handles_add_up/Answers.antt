use Rattle.event_laws.proofs.HandleSumLaws.{total_adds, moving_adds, client_adds}
use Rattle.event_laws.proofs.handles.handles_add_up.Goals as goal

pub returns-clause-in_all : goal.returns-clause-in_all
returns-clause-in_all c = total_adds

pub returns-clause-in_parcels : goal.returns-clause-in_parcels
returns-clause-in_parcels c = moving_adds

pub returns-clause-each : goal.returns-clause-each
returns-clause-each c = client_adds
