use Rattle.actor_plays.proofs.Common.{Ok, refl}
use Rattle.actor_plays.proofs.MoveLaws.{call_makes}
use Rattle.actor_plays.proofs.play.Play.make_call.Goals as goal

pub returns-in-Ok-clause-makes : goal.returns-in-Ok-clause-makes
returns-in-Ok-clause-makes c =
    call_makes c.args.self.now.core c.step.new.self c.args.client c.args.call c.in_ok-reply.reply
    (Ok c.in_ok-reply.reply) refl c.in_ok-reply.ensures.answer
    c.in_ok-reply.ensures.after c.in_ok-reply.ensures.full
