use Rattle.core_vanish.proofs.Common.{IfErr, IfOk, IsShut, IsUnshut, Phase, refl, subst, sym, ◌∙◌}
use Rattle.core_vanish.proofs.PhaseSteps.{told_err, told_full, told_ok, unmade_phase}
use Rattle.core_vanish.proofs.vanishing.shut.Goals as goal

pub returns-in-Ok-clause-ok : goal.returns-in-Ok-clause-ok
returns-in-Ok-clause-ok c =
    subst (λ r. IfOk r (λ waiting. Phase c.args.core.now c.make.new.core (λ marks events later. IsShut c.args.client waiting events later)))
    (sym c.waiting_in.ensures) (told_ok c.args.core.now c.make.new.core c.args.client c.in-Ok.reply c.in-Ok.ensures.made)

pub returns-in-Ok-clause-err : goal.returns-in-Ok-clause-err
returns-in-Ok-clause-err c =
    subst (λ r. IfErr r (λ fault. Phase c.args.core.now c.make.new.core (IsUnshut c.args.client fault)))
    (sym c.waiting_in.ensures) (told_err c.args.core.now c.make.new.core c.args.client c.in-Ok.reply c.in-Ok.ensures.made)

pub returns-in-Ok-clause-full : goal.returns-in-Ok-clause-full
returns-in-Ok-clause-full c h = told_full c.in-Ok.reply (sym c.waiting_in.ensures ∙ h)

pub returns-in-Err-clause-err : goal.returns-in-Err-clause-err
returns-in-Err-clause-err c =
    subst (λ f. Phase c.args.core.now c.make.new.core (IsUnshut c.args.client f)) (sym c.fault_of.ensures)
    (unmade_phase c.args.core.now c.make.new.core c.args.client c.in-Err.fault (c.in-Err.ensures.memory refl) c.in-Err.ensures.none)
