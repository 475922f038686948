use Rattle.play_search.proofs.Common.{end_of, map, take, ◌≡◌}
use Rattle.play_search.proofs.ends.are_ends.Given as goal

-- so far they are the same
abbrev pub invariant-loop-at : goal.invariant-loop-at
invariant-loop-at l = map end_of (take l.at l.other) ≡ map end_of (take l.at l.one)
