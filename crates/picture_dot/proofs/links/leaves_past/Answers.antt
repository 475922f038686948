use Rattle.picture_dot.proofs.Common.{arith, common_steps}
use Rattle.std.proofs.lemmas.List.{map-append}
use Rattle.std.proofs.lemmas.List.Elements.{filter-append}
use Rattle.picture_dot.proofs.links.leaves_past.Goals as goal

-- one more comes last, or is left out
pub loop-node-preserved : goal.loop-node-preserved
loop-node-preserved c = λ parents. grind (arith, common_steps, map-append, filter-append)
