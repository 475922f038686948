use Rattle.play_likeness.proofs.Common.{take, ◌≡◌}
use Rattle.play_likeness.proofs.slots.are_same.Given as goal

-- so far the slots are the same
abbrev pub invariant-loop-at : goal.invariant-loop-at
invariant-loop-at l = take l.at l.other ≡ take l.at l.one
