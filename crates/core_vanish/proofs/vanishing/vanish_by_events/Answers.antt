use Rattle.core_vanish.proofs.Common.{IsBegun, Phase, subst, sym}
use Rattle.core_vanish.proofs.VanishParts.{has_begun, has_left, unshut}
use Rattle.core_vanish.proofs.vanishing.vanish_by_events.Goals as goal

pub returns-in-Ok-let_go-clause-ok : goal.returns-in-Ok-let_go-clause-ok
returns-in-Ok-let_go-clause-ok c =
    has_left c.args.client c.in-Ok.waiting c.args.core.now c.shut.new.core c.let_go.new.core c.in-Ok.ensures.ok c.in-Ok-let_go.ensures.ok

pub returns-in-Err-let_go-clause-err : goal.returns-in-Err-let_go-clause-err
returns-in-Err-let_go-clause-err c =
    subst (λ f. Phase c.args.core.now c.let_go.new.core (λ marks events later. IsBegun c.args.client f events)) (sym c.fault_of.ensures)
    (has_begun c.args.client c.in-Ok.waiting c.in-Err-let_go.fault c.args.core.now c.shut.new.core c.let_go.new.core c.in-Ok.ensures.ok
    c.in-Err-let_go.ensures.err c.in-Err-let_go.ensures.gathered)

pub returns-in-Err-clause-err : goal.returns-in-Err-clause-err
returns-in-Err-clause-err c = unshut c.args.client c.in-Err.fault c.args.core.now c.shut.new.core c.in-Err.ensures.err
