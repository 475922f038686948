use Rattle.play_search.proofs.Common.{take, ◌≡◌}
use Rattle.play_search.proofs.ends.are_same.Given as goal

-- so far the places are the same
abbrev pub invariant-loop-at : goal.invariant-loop-at
invariant-loop-at l = take l.at l.other ≡ take l.at l.one
