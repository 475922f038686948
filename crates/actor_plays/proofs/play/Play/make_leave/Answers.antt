use Rattle.actor_plays.proofs.Common.{Some, slice_get, sym, ◌∙◌, ◌≡◌}
use Rattle.actor_plays.proofs.MoveLaws.{takes_leave, takes_leave_untold}
use Rattle.actor_plays.proofs.PlayLaws.{has_left}
use Rattle.actor_plays.proofs.play.Play.make_leave.Goals as goal

pub returns-clause-leave : goal.returns-clause-leave
returns-clause-leave c =
    let caller : slice_get c.args.self.now.clients.items c.args.actor ≡ Some c.in-Some.client =
    sym c.client_of.ensures ∙ c.in-Some.is in
    has_left c.args.plans.now c.args.self.now c.call.new.self c.note_leave.new.self c.args.actor c.in-Some.client c.args.call
    c.in_ok-reply.reply c.requires.play c.requires.call caller c.in_ok-reply.ensures.shows c.in_ok-reply.ensures.entries
    c.in_ok-reply.ensures.rest c.in_ok-note_leave.ensures.stages c.in_ok-note_leave.ensures.turns c.in_ok-note_leave.ensures.rest

pub returns-clause-takes : goal.returns-clause-takes
returns-clause-takes c = λ tells.
    let caller : slice_get c.args.self.now.clients.items c.args.actor ≡ Some c.in-Some.client =
    sym c.client_of.ensures ∙ c.in-Some.is in
    takes_leave c.args.plans.now c.args.self.now c.call.new.self c.note_leave.new.self c.args.actor c.in-Some.client c.args.call
    c.in_ok-reply.reply c.requires.call caller c.in_ok-reply.ensures.makes c.in_ok-reply.ensures.rest
    c.in_ok-note_leave.ensures.stages c.in_ok-note_leave.ensures.rest (c.in_ok-reply.ensures.fell tells)

pub returns-clause-untold : goal.returns-clause-untold
returns-clause-untold c =
    let caller : slice_get c.args.self.now.clients.items c.args.actor ≡ Some c.in-Some.client =
    sym c.client_of.ensures ∙ c.in-Some.is in
    takes_leave_untold c.args.plans.now c.args.self.now c.call.new.self c.note_leave.new.self c.args.actor c.in-Some.client c.args.call
    c.in_ok-reply.reply c.requires.call caller c.in_ok-reply.ensures.makes c.in_ok-reply.ensures.rest
    c.in_ok-note_leave.ensures.stages c.in_ok-note_leave.ensures.rest
