-- Each goal that is proved at once by the tactic that is named.
use Rattle.std.proofs.Common.{arith}
use Rattle.std.proofs.lemmas.Grind.{common_steps}
use Rattle.forest_store.proofs.unkept.note_all.Goals as goal

pub returns-clause-over : goal.returns-clause-over
returns-clause-over c = grind (arith, common_steps)
