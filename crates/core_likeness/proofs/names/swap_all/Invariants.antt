use Rattle.core_likeness.proofs.Common.{drop, same_number, under, ◌≡◌}
use Rattle.core_likeness.proofs.names.swap_all.Given as goal

-- the swaps that are left give the name
abbrev pub invariant-loop-swap : goal.invariant-loop-swap
invariant-loop-swap l = under same_number (drop l.swap-index l.swaps) l.name ≡ under same_number l.swaps l.fn.number
