use Rattle.actor_plays.proofs.Common.{Stage, left}
use Rattle.actor_plays.proofs.PlayLaws.{set_there}
use Rattle.actor_plays.proofs.play.Play.note_leave.Goals as goal

pub returns-in-Ok-clause-stages : goal.returns-in-Ok-clause-stages
returns-in-Ok-clause-stages c =
    set_there c.args.self.now.actors.items c.args.actor c.index_mut.result.now c.note_leave.new.self
    (λ (s : Stage). left s c.args.reply) c.index_mut.ensures.value c.in_ok-note_leave.ensures.stage
