use Rattle.history_laws.proofs.GoneLaws.{fired_for_good}
use Rattle.history_laws.proofs.lives.fired_is_for_good.Goals as goal

pub returns : goal.returns
returns c = fired_for_good
