use Rattle.play_search.proofs.Common.{slice_get_within, sym, ◌∙◌}
use Rattle.play_search.proofs.graph.Graph.is_met.Goals as goal

-- there is a row
pub returns-in-Some : goal.returns-in-Some
returns-in-Some c = λ yes. slice_get_within c.args.self.now.rows.items c.args.at _ (sym c.row.ensures ∙ c.in-Some.is)
