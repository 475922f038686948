use Rattle.event_facts.proofs.Common.{above_among, climb, has, reverse, ◌++◌, ◌≡◌}
use Rattle.std.proofs.Common.{length}
use Rattle.event_facts.proofs.failure_path.way_past.Given as goal

-- the way so far and the climb that is left make the whole
abbrev pub invariant-up : goal.invariant-up
invariant-up l = l.way.items ++ climb (has l.blocking) l.at (above_among (reverse l.rest) l.at)
    ≡ climb (has l.blocking) l.fn.origin (above_among (reverse l.nodes.items) l.fn.origin)

abbrev pub decreases-up : goal.decreases-up
decreases-up l = length l.rest
