use Rattle.core_likeness.proofs.Common.{Fired, map, new_number, take, ◌≡◌}
use Rattle.core_likeness.proofs.tracking.new_numbers.Given as goal

-- so far those of these
abbrev pub invariant-loop-one : goal.invariant-loop-one
invariant-loop-one l = l.numbers.items ≡ map (λ (f : Fired). new_number l.names f.tracker) (take l.one-index l.fired)
