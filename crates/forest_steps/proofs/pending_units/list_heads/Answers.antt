-- The head of one key more comes last, if it is one.
use Rattle.forest_steps.proofs.Common.{arith}
use Rattle.std.proofs.lemmas.Grind.{common_steps}
use Rattle.forest_steps.proofs.pending_units.list_heads.Goals as goal

pub loop-key-init : goal.loop-key-init
loop-key-init c = grind (arith, common_steps)

pub loop-key-preserved : goal.loop-key-preserved
loop-key-preserved c = grind (arith, common_steps)

pub returns : goal.returns
returns c = grind (arith, common_steps)
