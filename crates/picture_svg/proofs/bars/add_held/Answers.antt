use Rattle.picture_svg.proofs.Common.{arith, common_steps, filter-append, map-append}
use Rattle.picture_svg.proofs.bars.add_held.Goals as goal

-- one more comes last, or is left out
pub loop-held-preserved : goal.loop-held-preserved
loop-held-preserved c = λ names keeps calls. grind (arith, common_steps, map-append, filter-append)
