use Rattle.play_search.proofs.Common.{AreRowsEnded}
use Rattle.play_search.proofs.graph.Graph.ending_doubt.Given as goal

-- so far the plays end so
abbrev pub invariant-values : goal.invariant-values
invariant-values l = AreRowsEnded l.ground.plans.now l.ground.vanishing l.ground.setting l.self.rows.items l.shown.outcomes.now l.at
