use Rattle.history_laws.proofs.StandingLaws.{members-lost}
use Rattle.history_laws.proofs.marks.losses_are_read_off.Goals as goal

pub returns : goal.returns
returns c = members-lost
