use Rattle.play_search.proofs.Common.{IsPlay, IsWithin, ◌≡◌}
use Rattle.play_search.proofs.graph.Graph.walk.Given as goal

-- so far there is room, and the play goes on
abbrev pub invariant-walk : goal.invariant-walk
invariant-walk l = record {
  plays : IsPlay l.ground.plans.now l.play;
  within : IsWithin l.self;
  most : l.self.most ≡ l.fn.self.most;
}
