use Rattle.buffer_pool.proofs.Common.{arith, common_steps}
use Rattle.buffer_pool.proofs.blocks.short_pair.Goals as goal

-- by arithmetic and the usual steps
pub loop-at-preserved : goal.loop-at-preserved
loop-at-preserved c = grind (arith, common_steps)

pub returns-else-len-gt-FULL-clause-short : goal.returns-else-len-gt-FULL-clause-short
returns-else-len-gt-FULL-clause-short c = grind (arith, common_steps)

pub returns-after-loop-at-clause-none : goal.returns-after-loop-at-clause-none
returns-after-loop-at-clause-none c = grind (arith, common_steps)
