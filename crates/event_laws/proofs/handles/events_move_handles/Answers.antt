use Rattle.event_laws.proofs.HandleEventLaws.{open_of_event, open_total_event, moving_event}
use Rattle.event_laws.proofs.handles.events_move_handles.Goals as goal

pub returns-clause-each : goal.returns-clause-each
returns-clause-each c = open_of_event

pub returns-clause-in_all : goal.returns-clause-in_all
returns-clause-in_all c = open_total_event

pub returns-clause-in_parcels : goal.returns-clause-in_parcels
returns-clause-in_parcels c = moving_event
