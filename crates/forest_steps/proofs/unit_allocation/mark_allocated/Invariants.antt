use Rattle.forest_steps.proofs.Common.{take, IsGivenAt}
use Rattle.forest_steps.proofs.unit_allocation.mark_allocated.Given as goal

-- so far these nodes have them
abbrev pub invariant-loop-key : goal.invariant-loop-key
invariant-loop-key l = record { given : IsGivenAt l.initial.table l.table l.heads (take l.key-index l.keys) }
