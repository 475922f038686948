use Rattle.std.proofs.Common.{refl}
use Rattle.node_table.proofs.slot.loosen.Goals as goal

-- the entry has no parent and no neighbours, and is else as it was
pub returns-clause-edits : goal.returns-clause-edits
returns-clause-edits g c = record { before = c.in-Taken.entry; was = rw c.in-Taken.is at c.index_mut.ensures.value; becomes = refl }
