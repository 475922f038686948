use Rattle.core_likeness.proofs.Common.{drop, same_key, under, ◌≡◌}
use Rattle.core_likeness.proofs.names.swap_keys.Given as goal

-- the swaps that are left give the name
abbrev pub invariant-loop-swap : goal.invariant-loop-swap
invariant-loop-swap l = under same_key (drop l.swap-index l.swaps) l.name ≡ under same_key l.swaps l.fn.key
