use Rattle.history_laws.proofs.StandingLaws.{standing-allocated}
use Rattle.history_laws.proofs.marks.attached_allocations_place_nothing.Goals as goal

pub returns : goal.returns
returns c = standing-allocated
