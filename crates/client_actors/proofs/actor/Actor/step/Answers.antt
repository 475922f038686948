use Rattle.std.proofs.Common.{◌∙◌, sym}
use Rattle.client_actors.proofs.ScriptLaws.{faltered, on_err, skipped, stepped}
use Rattle.client_actors.proofs.actor.Actor.step.Goals as goal

pub returns-in_ok-reply-in-Some-clause-stepped : goal.returns-in_ok-reply-in-Some-clause-stepped
returns-in_ok-reply-in-Some-clause-stepped g c =
    stepped c.args.clients.now c.args.step c.in-Some.asked c.in_ok-reply-in-Some.reply c.args.self.now c.make_call.new.self
    (sym c.call.ensures.asked ∙ c.in-Some.is) c.in_ok-reply-in-Some.ensures.made c.requires.aware

pub returns-in-None-clause-stepped : goal.returns-in-None-clause-stepped
returns-in-None-clause-stepped g c =
    skipped c.args.clients.now c.args.step c.args.self.now (sym c.call.ensures.asked ∙ c.in-None.is) c.requires.aware

pub returns-in_err-reply-in-Some-clause-faltered : goal.returns-in_err-reply-in-Some-clause-faltered
returns-in_err-reply-in-Some-clause-faltered g c =
    let asked = sym c.call.ensures.asked ∙ c.in-Some.is in
    on_err c.from_residual.result _
    (faltered c.args.clients.now c.args.step c.in-Some.asked c.args.self.now c.make_call.new.self asked
    c.in_err-reply-in-Some.ensures.falters
    c.requires.aware)
