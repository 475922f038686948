use Rattle.forced_marks.proofs.Common.{NodeKey, climbs_into, has, length, reverse, ◌≡◌}
use Rattle.forced_marks.proofs.node_sets.climb_all.Given as goal

-- the climbs that are left come to what all come to
abbrev pub invariant-climbs : goal.invariant-climbs
invariant-climbs l = (key : NodeKey) →
    climbs_into (reverse l.rest) (has l.busy) key ≡ climbs_into (reverse l.fn.nodes) (has l.initial.busy) key

abbrev pub decreases-climbs : goal.decreases-climbs
decreases-climbs l = length l.rest
