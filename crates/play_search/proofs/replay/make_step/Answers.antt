use Rattle.play_search.proofs.Common.{IsTurn, TakesTurn, setup_of, subst}
use Rattle.actor_plays.proofs.MoveLaws.{come_turn}
use Rattle.play_search.proofs.replay.make_step.Goals as goal

-- the turn was made
pub returns-in-Made-clause-play : goal.returns-in-Made-clause-play
returns-in-Made-clause-play c =
    (subst (IsTurn c.args.ground.now.plans.now c.args.play.now c.take_turn.new.self c.args.actor) c.in-Made.is
    c.in_ok-take_turn.ensures.turn).0

-- by its own falls, if it tells them
pub returns-in-Made-clause-way : goal.returns-in-Made-clause-way
returns-in-Made-clause-way c = λ tells.
    let plans = c.args.ground.now.plans.now in
    let old = c.args.play.now in
    let new = c.take_turn.new.self in
    come_turn (setup_of plans c.args.ground.now.vanishing c.args.ground.now.setting) plans old new c.args.actor
    (c.requires.way tells)
    (subst (IsTurn plans old new c.args.actor) c.in-Made.is c.in_ok-take_turn.ensures.turn)
    (subst (TakesTurn plans old new c.args.actor) c.in-Made.is (c.in_ok-take_turn.ensures.takes tells))
