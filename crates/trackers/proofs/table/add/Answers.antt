use Rattle.std.proofs.Common.{arith}
use Rattle.std.proofs.lemmas.Grind.{common_steps, elements}
use Rattle.trackers.proofs.table.add.Goals as goal

-- by arithmetic and the usual steps
pub returns-in-Err-clause-rows_kept : goal.returns-in-Err-clause-rows_kept
returns-in-Err-clause-rows_kept c = grind (arith, common_steps)

pub push-requires-clause-rising : goal.push-requires-clause-rising
push-requires-clause-rising c = grind (arith, elements)
