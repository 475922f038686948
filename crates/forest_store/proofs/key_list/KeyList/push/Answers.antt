-- Each goal that is proved at once by the tactic that is named.
use Rattle.std.proofs.Common.{arith}
use Rattle.std.proofs.lemmas.Grind.{common_steps}
use Rattle.forest_store.proofs.key_list.KeyList.push.Goals as goal

pub returns : goal.returns
returns c = grind (arith, common_steps)

pub unwrap-requires : goal.unwrap-requires
unwrap-requires c = grind (arith, common_steps)
