use Rattle.play_search.proofs.ClosingLaws.{are_closed}
use Rattle.play_search.proofs.graph.Graph.open_doubt.Goals as goal

-- all rows are tried
pub returns : goal.returns
returns c = λ none.
    are_closed c.args.ground.now.plans.now c.args.ground.now.vanishing c.args.ground.now.setting c.args.self.now.rows.items
    (c.is_met.ensures c.if-not-is_met.false) (c.in_ok-doubt.ensures none)
