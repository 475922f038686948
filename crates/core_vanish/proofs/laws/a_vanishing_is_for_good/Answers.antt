use Rattle.core_vanish.proofs.VanishEvents.{vanished_on}
use Rattle.core_vanish.proofs.laws.a_vanishing_is_for_good.Goals as goal

pub returns : goal.returns
returns c = vanished_on
