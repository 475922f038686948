use Rattle.play_search.proofs.EndingLaws.{none_missing}
use Rattle.play_search.proofs.graph.Graph.doubt.Goals as goal

-- no turn leads out
pub returns-clause-closed : goal.returns-clause-closed
returns-clause-closed c = λ none. c.in_ok-doubt.ensures c.in_default.is

-- all plays of rows that are over end so
pub returns-clause-none : goal.returns-clause-none
returns-clause-none c = λ none.
    none_missing c.args.ground.now.plans.now c.args.ground.now.vanishing c.args.ground.now.setting c.args.self.now.rows.items
    c.args.shown.outcomes.now (c.in_ok-doubt.ensures c.in_default.is) (c.in_ok-ended.ensures none)
