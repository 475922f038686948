use Rattle.core_vanish.proofs.Common.{Collecting, Phase, ℕ, ◌+◌, ◌≡◌}
use Rattle.core_vanish.proofs.vanishing.collect_all.Given as goal

-- this many were collected so far
abbrev pub invariant-loop-left : goal.invariant-loop-left
invariant-loop-left l =
    (count : ℕ) × (count + l.left ≡ l.waiting) × Phase l.fn.core l.core (Collecting l.client l.waiting count)

abbrev pub decreases-loop-left : goal.decreases-loop-left
decreases-loop-left l = l.left
