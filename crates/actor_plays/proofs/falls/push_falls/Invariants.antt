use Rattle.actor_plays.proofs.Common.{falls_at, flat_map, map, take, ◌++◌, ◌≡◌}
use Rattle.forced_marks.specs.Moments.{stage_of}
use Rattle.actor_plays.proofs.falls.push_falls.Given as goal

-- so far those that these marks take
abbrev pub invariant-loop-moment : goal.invariant-loop-moment
invariant-loop-moment l = l.falls.items ≡ l.fn.falls.items ++ flat_map falls_at (map stage_of (take l.moment-index l.moments.items))
