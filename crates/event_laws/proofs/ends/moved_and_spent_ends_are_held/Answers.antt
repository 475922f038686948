use Rattle.event_laws.proofs.EndEventLaws.{given_was, spent_was, delivered_was}
use Rattle.event_laws.proofs.ends.moved_and_spent_ends_are_held.Goals as goal

pub returns-clause-given : goal.returns-clause-given
returns-clause-given c = given_was

pub returns-clause-spent : goal.returns-clause-spent
returns-clause-spent c = spent_was

pub returns-clause-collected : goal.returns-clause-collected
returns-clause-collected c = delivered_was
