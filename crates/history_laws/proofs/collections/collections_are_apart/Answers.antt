use Rattle.sm_names.specs.Timelines.{timeline}
use Rattle.history_laws.proofs.GrowthLaws.{legal_grows}
use Rattle.history_laws.proofs.IsolationLaws.{reaches_in, members_loss, members_allocation, members_end}
use Rattle.history_laws.proofs.LifeLaws.{whole}
use Rattle.history_laws.proofs.collections.collections_are_apart.Goals as goal

pub returns-clause-reach : goal.returns-clause-reach
returns-clause-reach c pool limits history legal origin node =
    reaches_in (timeline pool history) origin node (whole pool limits (timeline pool history) (legal_grows pool limits history legal))

pub returns-clause-loss : goal.returns-clause-loss
returns-clause-loss c pool limits history legal ours theirs other =
    members_loss (timeline pool history) ours theirs (whole pool limits (timeline pool history) (legal_grows pool limits history legal))
    other

pub returns-clause-allocation : goal.returns-clause-allocation
returns-clause-allocation c pool limits history legal ours theirs other =
    members_allocation (timeline pool history) ours theirs (whole pool limits (timeline pool history) (legal_grows pool limits history
    legal)) other

pub returns-clause-end : goal.returns-clause-end
returns-clause-end c pool limits history legal ours theirs other =
    members_end (timeline pool history) ours theirs (whole pool limits (timeline pool history) (legal_grows pool limits history legal))
    other
