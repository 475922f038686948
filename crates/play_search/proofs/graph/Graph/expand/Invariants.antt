use Rattle.play_search.proofs.Common.{IsWithin, ◌≡◌}
use Rattle.play_search.proofs.graph.Graph.expand.Given as goal

-- so far there is room
abbrev pub invariant-turns : goal.invariant-turns
invariant-turns l = record {
  within : IsWithin l.self;
  most : l.self.most ≡ l.fn.self.most;
}
