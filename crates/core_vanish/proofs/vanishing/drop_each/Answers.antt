use Rattle.core_vanish.proofs.Common.{IsDrop, Lets, Phase, Whatever, arith, open_of, recalling, subst, ℕ, ◌∙◌, ◌≡◌}
use Rattle.core_state.proofs.views.Shown.{open_shown}
use Rattle.core_vanish.proofs.PhaseLemmas.{on_fault, phase_same}
use Rattle.core_vanish.proofs.PhaseSteps.{drop_first, drop_more, let_some}
use Rattle.core_vanish.proofs.vanishing.drop_each.Goals as goal

pub loop-left-init : goal.loop-left-init
loop-left-init c =
    drop_first c.args.core.now c.args.client c.args.buffer c.args.strength c.open_handles-left.result
    (λ gone history shows. c.open_handles-left.ensures.value
    ∙ open_shown (recalling gone c.args.core.now) history shows c.args.client c.args.buffer c.args.strength)

pub loop-left-preserved : goal.loop-left-preserved
loop-left-preserved c =
    drop_more c.args.core.now c.loop-left.core c.make.new.core c.args.client c.args.buffer c.args.strength c.loop-left.left
    c.in_ok-make.field-0 c.loop-left-test.true c.loop-left.invariant c.in_ok-make.ensures.made

pub returns-in_err-make-clause-err : goal.returns-in_err-make-clause-err
returns-in_err-make-clause-err c =
    on_fault c.from_residual.result (Phase c.args.core.now c.make.new.core (Lets (IsDrop c.args.client) c.args.client Whatever))
    (phase_same c.args.core.now c.loop-left.core c.make.new.core (Lets (IsDrop c.args.client) c.args.client Whatever)
    (let_some (IsDrop c.args.client) c.args.core.now c.loop-left.core c.args.client
    (λ later. open_of later c.args.client c.args.buffer c.args.strength
    ≡ c.loop-left.left) c.loop-left.invariant) c.in_err-make.ensures.none)

pub returns-clause-ok : goal.returns-clause-ok
returns-clause-ok c =
    let none : c.loop-left.left ≡ 0 = omega (arith, c.loop-left-test.false) in
    subst (λ (n : ℕ). Phase c.args.core.now c.loop-left.core (Lets (IsDrop c.args.client) c.args.client (λ later.
    open_of later c.args.client c.args.buffer c.args.strength ≡ n))) none c.loop-left.invariant
