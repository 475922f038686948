use Rattle.actor_plays.proofs.Common.{None, Some, sym, ◌∙◌, ◌≡◌}
use Rattle.actor_plays.proofs.PassLaws.{has_passed, same_position}
use Rattle.actor_plays.proofs.PlayLaws.{stepped_on}
use Rattle.actor_plays.proofs.play.Play.pass_one.Goals as goal

pub returns-clause-play : goal.returns-clause-play
returns-clause-play c =
    stepped_on c.args.plans.now c.args.self.now c.step_on.new.self c.args.actor c.in-Some.next c.requires c.step_on.result
    (sym c.next.ensures ∙ c.in-Some.is) (c.stays.ensures.none c.if-stays.false) (c.stays.ensures.quiet c.if-stays.false)
    c.step_on.ensures.stages c.step_on.ensures.none c.step_on.ensures.rest

pub returns-clause-passes : goal.returns-clause-passes
returns-clause-passes c = λ yes.
    has_passed c.args.plans.now c.args.self.now c.step_on.new.self c.args.actor c.in-Some.next
    (sym c.next.ensures ∙ c.in-Some.is) (c.stays.ensures.none c.if-stays.false) (c.stays.ensures.quiet c.if-stays.false)
    (c.step_on.ensures.stages yes) c.step_on.ensures.rest

pub returns-clause-same : goal.returns-clause-same
returns-clause-same c = λ no.
    same_position c.args.self.now c.step_on.new.self (c.step_on.ensures.none no) c.step_on.ensures.rest

pub returns-clause-rests : goal.returns-clause-rests
returns-clause-rests c = λ no.
    let none : Some c.in-Some.next ≡ None = sym (sym c.next.ensures ∙ c.in-Some.is) ∙ c.step_on.ensures.done no in cc
