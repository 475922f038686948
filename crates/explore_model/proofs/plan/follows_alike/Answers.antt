use Rattle.std.proofs.Common.{arith}
use Rattle.std.proofs.lemmas.Grind.{common_steps}
use Rattle.explore_model.proofs.plan.follows_alike.Goals as goal

pub returns : goal.returns
returns c = grind (arith, common_steps)
