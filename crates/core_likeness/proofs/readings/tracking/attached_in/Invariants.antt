use Rattle.core_likeness.proofs.Common.{map, reverse, take, timeline, tracked, tracked_of, ℕ, ◌≡◌}
use Rattle.core_likeness.proofs.readings.tracking.attached_in.Given as goal

-- so far those of these entries
abbrev pub invariant-loop-at : goal.invariant-loop-at
invariant-loop-at l = (pool : ℕ) → map tracked_of l.all.items ≡ reverse (tracked (timeline pool (take l.at l.entries)))
