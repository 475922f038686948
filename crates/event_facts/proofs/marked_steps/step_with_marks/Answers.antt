use Rattle.event_facts.proofs.Common.{IsStart, List, Option, Start, [], ap, map, refl, rules, stage_of, subst, sym, work_of, ◌∙◌, ◌∷◌}
use Rattle.sm_names.specs.Marks.{Called, Mark}
use Rattle.sm_names.specs.Timelines.{timeline}
use Rattle.forced_marks.specs.declared.moment.Moment.{Moment}
use Rattle.forced_marks.specs.Marks.{AreStages, laid_on}
use Rattle.forced_marks.specs.Steps.{mark_told}
use Rattle.event_facts.proofs.Copied.{changed_copy, if_ok_some, roomy_copy, unwalked, walked}
use Rattle.forced_marks.proofs.EventTold.{told_of_stages}
use Rattle.forced_marks.proofs.Staged.{marks_of_moments}
use Rattle.event_facts.proofs.marked_steps.step_with_marks.Goals as goal

-- an event that changes nothing has no stage
pub returns-in_default-before-clause-stages : goal.returns-in_default-before-clause-stages
returns-in_default-before-clause-stages c =
    subst (λ (l : List Moment). AreStages c.args.core.now c.step.new.self c.args.client c.args.call c.in_ok-reply.reply (map stage_of l))
    (sym c.new.ensures.items)
    (unwalked c.args.core.now c.step.new.self c.args.client c.args.call c.in_ok-reply.reply c.in_ok-reply.ensures.after
    (work_of c.args.core.now c.args.client c.args.call c.in_ok-reply.reply) refl
    (subst (λ (o : Option Start). IsStart c.args.core.now (work_of c.args.core.now c.args.client c.args.call c.in_ok-reply.reply) o)
    c.in_default-before.is (c.in-Ok.ensures c.in_ok-reply.reply c.in_ok-reply.ensures.answer)))

pub returns-in_default-before-clause-shown : goal.returns-in_default-before-clause-shown
returns-in_default-before-clause-shown c history shows =
    told_of_stages c.args.core.now c.step.new.self history c.args.client c.args.call c.in_ok-reply.reply shows
    c.in_ok-reply.ensures.answer c.in_ok-reply.ensures.after []
    (unwalked c.args.core.now c.step.new.self c.args.client c.args.call c.in_ok-reply.reply c.in_ok-reply.ensures.after
    (work_of c.args.core.now c.args.client c.args.call c.in_ok-reply.reply) refl
    (subst (λ (o : Option Start). IsStart c.args.core.now (work_of c.args.core.now c.args.client c.args.call c.in_ok-reply.reply) o)
    c.in_default-before.is (c.in-Ok.ensures c.in_ok-reply.reply c.in_ok-reply.ensures.answer)))
    ∙ ap (λ (l : List Moment). laid_on (map (λ (m : Moment). mark_told m.mark) l)
    (Called c.args.client c.in_ok-reply.reply c.args.call ∷ timeline c.args.core.now.pool history)) (sym c.new.ensures.items)

-- the copy fits the change
pub walk-requires-clause-sound : goal.walk-requires-clause-sound
walk-requires-clause-sound c =
    changed_copy c.args.core.now c.args.core.now.limits c.args.client c.args.call c.in_ok-reply.reply c.in-Some.before
    c.in_ok-reply.ensures.answer
    (subst (λ (o : Option Start). IsStart c.args.core.now (work_of c.args.core.now c.args.client c.args.call c.in_ok-reply.reply) o)
    c.in-Some.is (c.in-Ok.ensures c.in_ok-reply.reply c.in_ok-reply.ensures.answer))

pub walk-requires-clause-room : goal.walk-requires-clause-room
walk-requires-clause-room c =
    roomy_copy c.args.core.now (work_of c.args.core.now c.args.client c.args.call c.in_ok-reply.reply) c.in-Some.before
    (subst (λ (o : Option Start). IsStart c.args.core.now (work_of c.args.core.now c.args.client c.args.call c.in_ok-reply.reply) o)
    c.in-Some.is (c.in-Ok.ensures c.in_ok-reply.reply c.in_ok-reply.ensures.answer))

-- the stages of the walk are those of the event
pub returns-clause-stages : goal.returns-clause-stages
returns-clause-stages c =
    rw c.ok-moments.ensures.value
    (if_ok_some _ _ c.walk.result
    (λ ms by. walked c.args.core.now c.step.new.self c.in_ok-reply.reply
    (work_of c.args.core.now c.args.client c.args.call c.in_ok-reply.reply) c.in-Some.before (map stage_of ms.items)
    c.in_ok-reply.ensures.after.pool
    (subst (λ (o : Option Start). IsStart c.args.core.now (work_of c.args.core.now c.args.client c.args.call c.in_ok-reply.reply) o)
    c.in-Some.is (c.in-Ok.ensures c.in_ok-reply.reply c.in_ok-reply.ensures.answer)) by)
    c.walk.ensures)

-- so their marks are the history's
pub returns-clause-shown : goal.returns-clause-shown
returns-clause-shown c =
    rw c.ok-moments.ensures.value
    (if_ok_some _ _ c.walk.result
    (λ ms by history shows.
    told_of_stages c.args.core.now c.step.new.self history c.args.client c.args.call c.in_ok-reply.reply shows
    c.in_ok-reply.ensures.answer c.in_ok-reply.ensures.after (map stage_of ms.items)
    (walked c.args.core.now c.step.new.self c.in_ok-reply.reply
    (work_of c.args.core.now c.args.client c.args.call c.in_ok-reply.reply) c.in-Some.before (map stage_of ms.items)
    c.in_ok-reply.ensures.after.pool
    (subst (λ (o : Option Start). IsStart c.args.core.now (work_of c.args.core.now c.args.client c.args.call c.in_ok-reply.reply) o)
    c.in-Some.is (c.in-Ok.ensures c.in_ok-reply.reply c.in_ok-reply.ensures.answer)) by)
    ∙ ap (λ (l : List Mark). laid_on l (Called c.args.client c.in_ok-reply.reply c.args.call ∷ timeline c.args.core.now.pool history))
    (marks_of_moments ms.items))
    c.walk.ensures)

pub returns-clause-stepped : goal.returns-clause-stepped
returns-clause-stepped c = search rules

pub returns-in_default-before-clause-stepped : goal.returns-in_default-before-clause-stepped
returns-in_default-before-clause-stepped c = search rules

pub returns-in_default-clause-shown : goal.returns-in_default-clause-shown
returns-in_default-clause-shown c = search rules

pub returns-in_default-clause-stages : goal.returns-in_default-clause-stages
returns-in_default-clause-stages c = search rules

pub returns-in_default-clause-stepped : goal.returns-in_default-clause-stepped
returns-in_default-clause-stepped c = search rules
