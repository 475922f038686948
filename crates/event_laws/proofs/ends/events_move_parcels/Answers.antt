use Rattle.event_laws.proofs.Common.{legal_grows, timeline}
use Rattle.event_laws.proofs.ParcelEventLaws.{given_event, collected_event, idle_event, stranger_waits_for_none}
use Rattle.event_laws.proofs.ends.events_move_parcels.Goals as goal

pub returns-clause-given : goal.returns-clause-given
returns-clause-given c = given_event

pub returns-clause-collected : goal.returns-clause-collected
returns-clause-collected c = collected_event

pub returns-clause-kept : goal.returns-clause-kept
returns-clause-kept c = idle_event

pub returns-clause-strangers : goal.returns-clause-strangers
returns-clause-strangers c pool limits history legal =
    stranger_waits_for_none pool limits (timeline pool history) (legal_grows pool limits history legal)
