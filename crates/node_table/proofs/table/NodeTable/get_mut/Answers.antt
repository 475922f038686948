use Rattle.node_table.proofs.Common.{arith, common_steps}
use Rattle.node_table.proofs.table.NodeTable.get_mut.Goals as goal

-- by arithmetic and the usual steps
pub returns-then-contains : goal.returns-then-contains
returns-then-contains g c = grind (arith, common_steps)
