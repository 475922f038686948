use Rattle.std.proofs.Common.{arith}
use Rattle.std.proofs.lemmas.Grind.{common_steps}
use Rattle.picture_layout.proofs.Places.{place-more}
use Rattle.picture_layout.proofs.layout.places_of.Goals as goal

-- one more comes last
pub loop-at-preserved : goal.loop-at-preserved
loop-at-preserved c = λ key. grind (arith, common_steps, place-more)
