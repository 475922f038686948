use Rattle.play_search.specs.Closing.{AreTriedIn}
use Rattle.play_search.proofs.ClosingLaws.{one_more}
use Rattle.play_search.proofs.graph.Graph.actors_doubt.Goals as goal

-- those of one actor more are tried
pub actors-preserved : goal.actors-preserved
actors-preserved c =
    one_more (AreTriedIn c.args.ground.now.plans.now c.args.ground.now.vanishing c.args.ground.now.setting c.args.self.now.rows.items
    c.args.at) c.actors.actor c.actors.invariant (c.in_ok-doubt.ensures c.in_default.is)
