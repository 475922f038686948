use Rattle.forest_store.proofs.Common.{length, children_at}
use Rattle.forest_store.proofs.tables.TakingOut.{CutsOff}
use Rattle.forest_store.proofs.unkept.cut_children.Given as goal

-- only links were cut so far
abbrev pub invariant-cutting : goal.invariant-cutting
invariant-cutting l = record { off : CutsOff l.initial.table l.table l.key }

-- each cut leaves fewer children
abbrev pub decreases-cutting : goal.decreases-cutting
decreases-cutting l = length (children_at l.table l.key)
