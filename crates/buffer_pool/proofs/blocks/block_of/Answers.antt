use Rattle.buffer_pool.proofs.Common.{arith, common_steps}
use Rattle.buffer_pool.proofs.blocks.block_of.Goals as goal

-- by arithmetic and the usual steps
pub loop-low-preserved : goal.loop-low-preserved
loop-low-preserved c = grind (arith, common_steps)
