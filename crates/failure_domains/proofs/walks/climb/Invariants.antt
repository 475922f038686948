use Rattle.failure_domains.proofs.Common.{Climb, IsForest, IsSome, blocked_at, parent_at, row_at, ◌<◌}
use Rattle.failure_domains.proofs.walks.climb.Given as goal

-- so far each step climbed a link, to a node that is there
abbrev pub invariant-up : goal.invariant-up
invariant-up g l = record {
  path : Climb (parent_at l.table) (blocked_at g.N.Link.blocks l.table) l.fn.origin l.top l.steps;
  there : IsSome (row_at l.table l.top);
  forest : 0 < l.steps → IsForest l.table;
}
