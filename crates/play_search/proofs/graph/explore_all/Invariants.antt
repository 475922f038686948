use Rattle.play_search.proofs.Common.{IsWithin, ◌≡◌}
use Rattle.play_search.proofs.graph.explore_all.Given as goal

-- so far there is room
abbrev pub invariant-values : goal.invariant-values
invariant-values g l = record {
  within : IsWithin l.graph;
  most : l.graph.most ≡ l.fn.graph.most;
}
