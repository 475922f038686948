use Rattle.event_laws.proofs.Common.{legal_grows, timeline}
use Rattle.event_laws.proofs.HandleBufferLaws.{has_named, open_named, moving_named, stranger_has_none}
use Rattle.event_laws.proofs.handles.handles_are_on_buffers.Goals as goal

pub returns-clause-each : goal.returns-clause-each
returns-clause-each c pool limits history legal = has_named pool limits (timeline pool history) (legal_grows pool limits history legal)

pub returns-clause-in_all : goal.returns-clause-in_all
returns-clause-in_all c pool limits history legal = open_named pool limits (timeline pool history) (legal_grows pool limits history legal)

pub returns-clause-in_parcels : goal.returns-clause-in_parcels
returns-clause-in_parcels c pool limits history legal =
    moving_named pool limits (timeline pool history) (legal_grows pool limits history legal)

pub returns-clause-strangers : goal.returns-clause-strangers
returns-clause-strangers c pool limits history legal =
    stranger_has_none pool limits (timeline pool history) (legal_grows pool limits history legal)
