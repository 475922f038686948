use Rattle.event_laws.proofs.EndEventLaws.{spent_event, transit_event, holder_event, kind_event, born_event}
use Rattle.event_laws.proofs.ends.events_move_ends.Goals as goal

pub returns-clause-spent : goal.returns-clause-spent
returns-clause-spent c = spent_event

pub returns-clause-in_transit : goal.returns-clause-in_transit
returns-clause-in_transit c = transit_event

pub returns-clause-holder : goal.returns-clause-holder
returns-clause-holder c = holder_event

pub returns-clause-born : goal.returns-clause-born
returns-clause-born c = born_event

pub returns-clause-kind : goal.returns-clause-kind
returns-clause-kind c = kind_event
