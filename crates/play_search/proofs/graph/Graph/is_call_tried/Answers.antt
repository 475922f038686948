use Rattle.play_search.specs.Closing.{way_to, ways_of}
use Rattle.play_search.proofs.ClosingLaws.{none_asked}
use Rattle.play_search.proofs.graph.Graph.is_call_tried.Goals as goal

-- the actor has no call to make
pub returns-in-None : goal.returns-in-None
returns-in-None c = λ yes.
    let rows = c.args.self.now.rows.items in
    none_asked c.args.ground.now.plans.now c.args.ground.now.vanishing c.args.ground.now.setting (ways_of rows)
    (way_to rows c.args.at) c.args.actor c.args.here.now c.requires.here (c.next_call.ensures.none c.in-None.is)
