use Rattle.event_laws.proofs.Common.{IsWaitedFor, Tracked, false, is_tracked_met, unfired_trackers, world, ◌≡◌}
use Rattle.event_laws.proofs.WaitingLaws.{waited_for, waiting_not_due}
use Rattle.event_laws.proofs.NumberLaws.{all-In}
use Rattle.event_laws.proofs.trackers.waiting_trackers_are_not_due.Goals as goal

pub returns-clause-undue : goal.returns-clause-undue
returns-clause-undue c marks =
    all-In (λ (t : Tracked). is_tracked_met (world marks) t ≡ false) (unfired_trackers marks) (waiting_not_due marks)

pub returns-clause-kept : goal.returns-clause-kept
returns-clause-kept c marks = all-In (λ (t : Tracked). IsWaitedFor marks t.condition) (unfired_trackers marks) (waited_for marks)
