use Rattle.actor_plays.proofs.Common.{AreFalls}
use Rattle.std.specs.Prelude.{OnOk}
use Rattle.actor_plays.proofs.MoveLaws.{takes_behind_ok, takes_rest, takes_rest_untold, untold_behind_ok}
use Rattle.actor_plays.proofs.PlayLaws.{fallen_before, turned_ok}
use Rattle.actor_plays.proofs.play.Play.pass_and_turn.Goals as goal

pub returns-in-Some-clause-turn : goal.returns-in-Some-clause-turn
returns-in-Some-clause-turn c =
    turned_ok c.args.plans.now c.args.self.now c.pass.new.self c.make_turn.new.self c.args.actor c.make_turn.result c.pass.ensures.rest
    c.make_turn.ensures.turn

pub returns-in-Some-clause-told : goal.returns-in-Some-clause-told
returns-in-Some-clause-told c = λ tells.
    fallen_before c.args.self.now c.pass.new.self
    (OnOk c.make_turn.result (AreFalls c.make_turn.new.self.entries.items c.make_turn.new.self.falls.items)) c.pass.ensures.rest
    (c.make_turn.ensures.told tells)

pub returns-in-None-clause-turn : goal.returns-in-None-clause-turn
returns-in-None-clause-turn c = (c.pass.ensures.play, c.pass.ensures.rest, c.asks.ensures.none c.in-None.is)

pub returns-in-Some-clause-takes : goal.returns-in-Some-clause-takes
returns-in-Some-clause-takes c = λ tells.
    takes_behind_ok c.args.plans.now c.args.self.now c.pass.new.self c.make_turn.new.self c.args.actor c.make_turn.result
    c.pass.ensures.passes c.pass.ensures.rest (c.make_turn.ensures.takes tells)

pub returns-in-Some-clause-untold : goal.returns-in-Some-clause-untold
returns-in-Some-clause-untold c =
    untold_behind_ok c.args.plans.now c.args.self.now c.pass.new.self c.make_turn.new.self c.args.actor c.make_turn.result
    c.pass.ensures.passes c.pass.ensures.rest c.make_turn.ensures.untold

pub returns-in-None-clause-takes : goal.returns-in-None-clause-takes
returns-in-None-clause-takes c = λ tells.
    takes_rest c.args.plans.now c.args.self.now c.pass.new.self c.args.actor c.pass.ensures.passes c.pass.ensures.rest
    c.pass.ensures.rests (c.asks.ensures.none c.in-None.is)

pub returns-in-None-clause-untold : goal.returns-in-None-clause-untold
returns-in-None-clause-untold c =
    takes_rest_untold c.args.plans.now c.args.self.now c.pass.new.self c.args.actor c.pass.ensures.passes c.pass.ensures.rest
    c.pass.ensures.rests (c.asks.ensures.none c.in-None.is)
