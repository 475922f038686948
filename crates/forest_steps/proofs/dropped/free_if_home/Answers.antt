-- Where the buffer is not home, none is.
use Rattle.forest_steps.proofs.Common.{arith}
use Rattle.forest_steps.proofs.changes.Dropped.{none_goes}
use Rattle.forest_steps.proofs.dropped.free_if_home.Goals as goal

pub returns-else-home-clause-held : goal.returns-else-home-clause-held
returns-else-home-clause-held c = grind (arith, none_goes)
