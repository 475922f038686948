use Rattle.play_search.proofs.Common.{way_to}
use Rattle.play_search.proofs.WayLaws.{IsPart}
use Rattle.play_search.proofs.graph.Graph.path_back.Given as goal

-- so many turns of the way are gone back
abbrev pub invariant-rows : goal.invariant-rows
invariant-rows l = IsPart l.self.rows.items l.counter l.at l.turns.items (way_to l.self.rows.items l.place)
