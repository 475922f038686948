use Rattle.forced_marks.proofs.Common.{Collection, IfSome, IsSound, IsStep, Option, PendingStep, SettlesBy, Some, [], ap, collection_of}
use Rattle.forced_marks.proofs.Common.{map, mark_of, mark_told, pages_in, stage_of, stages, subst, sym, told, total, ◌++◌, ◌<◌, ◌∙◌, ◌∷◌}
use Rattle.forced_marks.proofs.Common.{◌≡◌}
use Rattle.std.proofs.Common.{option_map}
use Rattle.forced_marks.specs.declared.decision.Forced.{Forced}
use Rattle.forced_marks.specs.Marks.{Rests, Forces}
use Rattle.forced_marks.specs.Steps.{IsSized}
use Rattle.forced_marks.proofs.Sound.{step_sound}
use Rattle.forced_marks.proofs.Staged.{no_stage_more, one_stage_more}
use Rattle.forced_marks.proofs.StepsLeft.{step_falls, steps_left}
use Rattle.forced_marks.proofs.forced_steps.settle.Goals as goal

-- a step that is decided on may be made
is_step : (old : Collection) (o : Option PendingStep) (d : PendingStep) → o ≡ Some d → IfSome o (λ d. IsStep old (told d)) →
    IsStep old (told d)
is_step old o d is may = subst (λ (o : Option PendingStep). IfSome o (λ d. IsStep old (told d))) is may

pub apply_step-requires-clause-step : goal.apply_step-requires-clause-step
apply_step-requires-clause-step c =
    is_step (collection_of c.steps.scene) c.in_ok-decided.decided c.in-Some.step c.in-Some.is c.in_ok-decided.ensures.step

pub apply_step-requires-clause-sized : goal.apply_step-requires-clause-sized
apply_step-requires-clause-sized c = subst (λ (o : Option PendingStep). IfSome o IsSized) c.in-Some.is c.in_ok-decided.ensures.sized

-- no step is left
pub returns-in_default : goal.returns-in_default
returns-in_default c =
    let now : Collection = collection_of c.steps.scene in
    let none = c.in_ok-decided.ensures.forced c.args.pool c.args.others.now
    ∙ ap (option_map (λ (d : PendingStep). mark_of c.args.pool (pages_in now ++ c.args.others.now) (told d))) c.in_default.is in
    let r = c.steps.invariant.settles [] now (Rests now none) in
    record { marks = r.0; settles = r.1; gained = sym (no_stage_more (map stage_of c.steps.all.items)) ∙ r.2 }

-- the stage of the step that is made stands last
pub steps-preserved : goal.steps-preserved
steps-preserved c =
    let old : Collection = collection_of c.steps.scene in
    let m : Forced = c.in_ok-mark.mark in
    let step : IsStep old (told c.in-Some.step) =
    is_step old c.in_ok-decided.decided c.in-Some.step c.in-Some.is c.in_ok-decided.ensures.step in
    let forces = c.in_ok-decided.ensures.forced c.args.pool c.args.others.now
    ∙ (ap (option_map (λ (d : PendingStep). mark_of c.args.pool (pages_in old ++ c.args.others.now) (told d))) c.in-Some.is
    ∙ ap Some (sym c.in_ok-mark.ensures.mark)) in
    record {
      sound = subst (λ (x : Collection). IsSound x) (sym c.in_ok-mark.ensures.made)
          (step_sound c.args.pool c.args.others.now (pages_in old ++ c.args.others.now) old (told c.in-Some.step) step
          c.steps.invariant.sound (mark_told m) c.in_ok-mark.ensures.mark);
      settles = λ rest after on.
          let r = c.steps.invariant.settles (mark_told m ∷ rest) after
          (Forces old after (mark_told m) rest
          forces
          (subst (λ (x : Collection). SettlesBy c.args.pool (total c.args.holds.now) c.args.others.now x rest after)
          c.in_ok-mark.ensures.made on)) in (
            r.0,
            r.1,
            rw c.in_ok-push.ensures.items
                (one_stage_more c.steps.all.items (record { mark = m; before = c.in_ok-before.before })
                (stages c.args.pool c.args.others.now (collection_of c.apply_step.new.scene) rest)
                ∙ ((λ i. map stage_of c.steps.all.items ++ record { mark = mark_told m; before = c.in_ok-before.ensures i }
                ∷ stages c.args.pool c.args.others.now (c.in_ok-mark.ensures.made i) rest)
                ∙ r.2)),
          );
    }

-- each step leaves fewer
pub steps-smaller : goal.steps-smaller
steps-smaller c =
    let old : Collection = collection_of c.steps.scene in
    subst (λ (x : Collection). steps_left x.nodes < steps_left old.nodes) (sym c.in_ok-mark.ensures.made)
    (step_falls c.args.pool c.args.others.now (pages_in old ++ c.args.others.now) old (told c.in-Some.step)
    (is_step old c.in_ok-decided.decided c.in-Some.step c.in-Some.is c.in_ok-decided.ensures.step)
    (mark_told c.in_ok-mark.mark) c.in_ok-mark.ensures.mark)
