use Rattle.buffer_pool.proofs.Common.{arith, common_steps}
use Rattle.buffer_pool.proofs.blocks.Blocks.settle.Goals as goal

-- by arithmetic and the usual steps
pub returns-then-spot-len-2-clause-settled : goal.returns-then-spot-len-2-clause-settled
returns-then-spot-len-2-clause-settled c = grind (arith, common_steps)

pub returns-then-spot-len-2-clause-place : goal.returns-then-spot-len-2-clause-place
returns-then-spot-len-2-clause-place c = grind (arith, common_steps)

pub returns-else-spot-len-clause-settled : goal.returns-else-spot-len-clause-settled
returns-else-spot-len-clause-settled c = grind (arith, common_steps)
