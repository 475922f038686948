use Rattle.actor_plays.proofs.Common.{length}
use Rattle.actor_plays.proofs.MoveLaws.{begins_at, first_joined}
use Rattle.actor_plays.proofs.PlayLaws.{begins, none_fell}
use Rattle.actor_plays.proofs.play.Play.have_joined.Goals as goal

pub returns-clause-play : goal.returns-clause-play
returns-clause-play c = λ are count. begins c.args.plans.now c.args.self.now are count

pub returns-clause-told : goal.returns-clause-told
returns-clause-told c = λ are. none_fell c.args.self.now are

pub returns-clause-clients : goal.returns-clause-clients
returns-clause-clients c = λ are count. first_joined c.args.self.now (length c.args.plans.now) are count

pub returns-clause-begins : goal.returns-clause-begins
returns-clause-begins c = λ are count. begins_at c.args.plans.now c.args.self.now are count
