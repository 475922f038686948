use Rattle.play_search.specs.Closing.{AreAllTriedIn}
use Rattle.play_search.proofs.graph.Graph.actors_doubt.Given as goal

-- the turns of so many actors are tried
abbrev pub invariant-actors : goal.invariant-actors
invariant-actors l = AreAllTriedIn l.ground.plans.now l.ground.vanishing l.ground.setting l.self.rows.items l.at l.actor
