use Rattle.event_laws.proofs.WaitingLaws.{counted}
use Rattle.event_laws.proofs.trackers.waiting_is_counted.Goals as goal

pub returns : goal.returns
returns c = counted
