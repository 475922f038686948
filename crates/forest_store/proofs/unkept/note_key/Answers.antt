-- Each goal that is proved at once by the tactic that is named.
use Rattle.std.proofs.Common.{arith}
use Rattle.std.proofs.lemmas.Grind.{common_steps}
use Rattle.forest_store.proofs.unkept.note_key.Goals as goal

pub returns-then-is_ok-clause-entry : goal.returns-then-is_ok-clause-entry
returns-then-is_ok-clause-entry c = grind (arith, common_steps)

pub returns-then-is_ok-clause-unkept : goal.returns-then-is_ok-clause-unkept
returns-then-is_ok-clause-unkept c = grind (arith, common_steps)
