use Rattle.actor_plays.proofs.PlayLaws.{one_more}
use Rattle.actor_plays.proofs.play.Play.add_actor.Goals as goal

pub returns-in-Ok-push-clause-stages : goal.returns-in-Ok-push-clause-stages
returns-in-Ok-push-clause-stages c =
    one_more c.args.self.now.actors.items c.push.new.self.items c.new-actor.result c.in-Ok.ensures.items c.new-actor.ensures
