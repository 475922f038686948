use Rattle.event_laws.proofs.ParcelEventLaws.{clients_event, made_event, shut_event}
use Rattle.event_laws.proofs.ends.events_make_and_shut_clients.Goals as goal

pub returns-clause-joined : goal.returns-clause-joined
returns-clause-joined c = clients_event

pub returns-clause-made : goal.returns-clause-made
returns-clause-made c = made_event

pub returns-clause-shut : goal.returns-clause-shut
returns-clause-shut c = shut_event
