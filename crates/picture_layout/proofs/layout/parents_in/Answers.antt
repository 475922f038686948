use Rattle.std.proofs.Common.{arith}
use Rattle.std.proofs.lemmas.Grind.{common_steps}
use Rattle.std.proofs.lemmas.List.{map-append}
use Rattle.picture_layout.proofs.layout.parents_in.Goals as goal

-- one more comes last
pub loop-node-preserved : goal.loop-node-preserved
loop-node-preserved c = λ all finds. grind (arith, common_steps, map-append, c.loop-node.invariant all finds, c.parent_of.ensures all finds)
