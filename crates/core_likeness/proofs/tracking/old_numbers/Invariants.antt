use Rattle.core_likeness.proofs.Common.{Fired, map, take, ◌≡◌}
use Rattle.core_likeness.proofs.tracking.old_numbers.Given as goal

-- so far those of these
abbrev pub invariant-loop-one : goal.invariant-loop-one
invariant-loop-one l = l.numbers.items ≡ map (λ (f : Fired). f.tracker) (take l.one-index l.fired)
