use Rattle.buffer_pool.proofs.Common.{arith, common_steps}
use Rattle.buffer_pool.proofs.blocks.Blocks.has_interval.Goals as goal

-- by arithmetic and the usual steps
pub returns-then-spot-len-clause-yes : goal.returns-then-spot-len-clause-yes
returns-then-spot-len-clause-yes c = grind (arith, common_steps)

pub returns-then-spot-len-clause-no : goal.returns-then-spot-len-clause-no
returns-then-spot-len-clause-no c = grind (arith, common_steps)
