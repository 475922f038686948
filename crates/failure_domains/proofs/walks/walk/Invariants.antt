use Rattle.failure_domains.proofs.Common.{All, IsForest, IsSome, IsWalk, children_within, depth_at, row_at, ◌-◌, ◌<◌, ◌≤◌}
use Rattle.std.proofs.Common.{◌^◌, vec_capacity}
use Rattle.failure_domains.proofs.walks.walk.Given as goal

-- so far as many keys were taken as there were visits
abbrev pub invariant-down : goal.invariant-down
invariant-down g l = record {
  walk : IsWalk (children_within (g.B.WalkBound.stops l.bound) l.table l.fn.top) (depth_at l.table) l.fn.top l.visits l.keys.items;
  forest : 0 < l.visits → IsForest l.table;
  there : All (λ key. IsSome (row_at l.table key)) l.keys.items;
  capacity : vec_capacity l.fn.keys ≤ vec_capacity l.keys;
}

-- a list has fewer keys than this
abbrev pub decreases-down : goal.decreases-down
decreases-down g l = 2 ^ 63 - l.visits
