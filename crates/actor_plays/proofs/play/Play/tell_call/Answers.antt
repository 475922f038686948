use Rattle.actor_plays.proofs.Common.{Ok, position_at, position_of, refl}
use Rattle.actor_plays.proofs.FallLaws.{fell_told}
use Rattle.actor_plays.proofs.MoveLaws.{call_makes}
use Rattle.actor_plays.proofs.PlayLaws.{told_by}
use Rattle.actor_plays.proofs.play.Play.tell_call.Goals as goal

pub returns-in-Ok-clause-told : goal.returns-in-Ok-clause-told
returns-in-Ok-clause-told c = λ are.
    told_by c.args.self.now.entries.items c.push.new.self.items c.args.self.now.falls.items c.note_falls.new.falls.items
    c.args.self.now.core c.step_with_marks.new.core c.args.client c.args.call c.in_ok-told.told.reply c.in_ok-told.told.moments
    c.requires (c.in_ok-told.ensures.stepped.goes_on c.args.self.now.entries.items c.requires) c.in_ok-told.ensures.stages
    c.in-Ok.ensures.items c.in_ok-note_falls.ensures.told are

pub returns-in-Ok-clause-makes : goal.returns-in-Ok-clause-makes
returns-in-Ok-clause-makes c =
    call_makes c.args.self.now.core c.step_with_marks.new.core c.args.client c.args.call c.in_ok-told.told.reply
    (Ok c.in_ok-told.told.reply) refl c.in_ok-told.ensures.stepped.answer c.in_ok-told.ensures.stepped.after c.in_ok-told.ensures.stepped.full

pub returns-in-Ok-clause-fell : goal.returns-in-Ok-clause-fell
returns-in-Ok-clause-fell c =
    fell_told (position_of c.args.self.now)
    (record (position_at c.note_falls.new.falls.items c.args.self.now) { core = c.step_with_marks.new.core }) c.args.client c.args.call
    c.in_ok-told.told.reply c.in_ok-told.told.moments c.in_ok-told.ensures.stages c.in_ok-note_falls.ensures.told
