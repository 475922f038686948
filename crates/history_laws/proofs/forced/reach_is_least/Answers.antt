use Rattle.history_laws.proofs.ReachLaws.{reaches-Reach}
use Rattle.history_laws.proofs.forced.reach_is_least.Goals as goal

pub returns : goal.returns
returns c = reaches-Reach
