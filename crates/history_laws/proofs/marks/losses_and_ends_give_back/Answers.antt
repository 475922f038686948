use Rattle.history_laws.proofs.StandingLaws.{standing-lost, standing-ended}
use Rattle.history_laws.proofs.marks.losses_and_ends_give_back.Goals as goal

pub returns-clause-loss : goal.returns-clause-loss
returns-clause-loss c = standing-lost

pub returns-clause-end : goal.returns-clause-end
returns-clause-end c = standing-ended
