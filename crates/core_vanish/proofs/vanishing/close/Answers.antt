use Rattle.core_vanish.proofs.Common.{IsClose, Lets, Phase, Whatever, sym, ◌∙◌}
use Rattle.core_vanish.proofs.PhaseLemmas.{on_fault, phase_same}
use Rattle.core_vanish.proofs.PhaseSteps.{close_none, close_one, let_none}
use Rattle.core_vanish.proofs.vanishing.close.Goals as goal

pub returns-in_ok-make-clause-ok : goal.returns-in_ok-make-clause-ok
returns-in_ok-make-clause-ok c =
    close_one c.args.core.now c.make.new.core c.args.client c.args.key c.in_ok-make.field-0 (sym c.is_held.ensures ∙ c.if-is_held.true)
    c.in_ok-make.ensures.made

pub returns-else-is_held-clause-ok : goal.returns-else-is_held-clause-ok
returns-else-is_held-clause-ok c =
    close_none c.args.core.now c.args.client c.args.key (sym c.is_held.ensures ∙ c.if-is_held.false)

pub returns-in_err-make-clause-err : goal.returns-in_err-make-clause-err
returns-in_err-make-clause-err c =
    on_fault c.from_residual.result (Phase c.args.core.now c.make.new.core (Lets (IsClose c.args.client) c.args.client Whatever))
    (phase_same c.args.core.now c.args.core.now c.make.new.core (Lets (IsClose c.args.client) c.args.client Whatever)
    (let_none (IsClose c.args.client) c.args.core.now c.args.client) c.in_err-make.ensures.none)
