use Rattle.buffer_pool.proofs.Common.{arith, common_steps}
use Rattle.buffer_pool.proofs.blocks.Blocks.put.Goals as goal

-- by arithmetic and the usual steps
pub insert-requires-clause-within : goal.insert-requires-clause-within
insert-requires-clause-within c = grind (arith, common_steps)

pub insert-requires-clause-room : goal.insert-requires-clause-room
insert-requires-clause-room c = grind (arith, common_steps)

pub returns-clause-lists : goal.returns-clause-lists
returns-clause-lists c = grind (arith, common_steps)
