use Rattle.event_laws.proofs.HandleCaseLaws.{others_each, others_all, others_moving}
use Rattle.event_laws.proofs.handles.other_events_leave_handles.Goals as goal

pub returns-clause-each : goal.returns-clause-each
returns-clause-each c = others_each

pub returns-clause-in_all : goal.returns-clause-in_all
returns-clause-in_all c = others_all

pub returns-clause-in_parcels : goal.returns-clause-in_parcels
returns-clause-in_parcels c = others_moving
