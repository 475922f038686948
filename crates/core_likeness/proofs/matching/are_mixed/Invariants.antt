use Rattle.core_likeness.proofs.Common.{Mixed, drop}
use Rattle.core_likeness.proofs.matching.are_mixed.Given as goal

-- where those that are left are the same, all are
abbrev pub invariant-loop-number : goal.invariant-loop-number
invariant-loop-number l = Mixed (drop l.number-index l.one) l.other.items → Mixed l.one l.fn.other.items
