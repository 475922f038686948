use Rattle.core_vanish.proofs.Common.{Gathered, Leaving, Phase, on_err_weaker, on_ok_weaker}
use Rattle.core_vanish.proofs.VanishParts.{closes_some, collects_some, drops_some, gathered_leaving, leaves}
use Rattle.core_vanish.proofs.PhaseLemmas.{at_fault, not_memory, on_each, on_fault}
use Rattle.core_vanish.proofs.vanishing.let_go.Goals as goal

pub returns-clause-ok : goal.returns-clause-ok
returns-clause-ok c =
    on_ok_weaker c.drop_all.result
    (λ q. leaves c.args.client c.args.waiting c.args.core.now c.collect_all.new.core c.close_all.new.core c.drop_all.new.core
    c.in_ok-collect_all.ensures.ok c.in_ok-close_all.ensures.ok q) c.drop_all.ensures.ok

pub returns-clause-err : goal.returns-clause-err
returns-clause-err c =
    on_err_weaker c.drop_all.result
    (λ q. gathered_leaving c.args.client c.args.waiting c.args.core.now c.drop_all.new.core (drops_some c.args.client c.args.waiting
    c.args.core.now c.collect_all.new.core c.close_all.new.core c.drop_all.new.core c.in_ok-collect_all.ensures.ok
    c.in_ok-close_all.ensures.ok q)) c.drop_all.ensures.err

pub returns-clause-gathered : goal.returns-clause-gathered
returns-clause-gathered c =
    at_fault c.drop_all.result (λ q fault memory. drops_some c.args.client c.args.waiting c.args.core.now c.collect_all.new.core
    c.close_all.new.core c.drop_all.new.core c.in_ok-collect_all.ensures.ok c.in_ok-close_all.ensures.ok q) c.drop_all.ensures.err

pub returns-in_err-close_all-clause-err : goal.returns-in_err-close_all-clause-err
returns-in_err-close_all-clause-err c =
    on_fault c.from_residual-in_err-close_all.result (Phase c.args.core.now c.close_all.new.core (Leaving c.args.client c.args.waiting))
    (gathered_leaving c.args.client c.args.waiting c.args.core.now c.close_all.new.core (closes_some c.args.client c.args.waiting
    c.args.core.now c.collect_all.new.core c.close_all.new.core c.in_ok-collect_all.ensures.ok c.in_err-close_all.ensures.err))

pub returns-in_err-close_all-clause-gathered : goal.returns-in_err-close_all-clause-gathered
returns-in_err-close_all-clause-gathered c =
    on_each c.from_residual-in_err-close_all.result (λ fault memory. closes_some c.args.client c.args.waiting c.args.core.now
    c.collect_all.new.core c.close_all.new.core c.in_ok-collect_all.ensures.ok c.in_err-close_all.ensures.err)

pub returns-in_err-collect_all-clause-err : goal.returns-in_err-collect_all-clause-err
returns-in_err-collect_all-clause-err c =
    let so = c.in_err-collect_all.ensures.err in
    on_fault c.from_residual.result (Phase c.args.core.now c.collect_all.new.core (Leaving c.args.client c.args.waiting))
    (collects_some c.args.client c.args.waiting so.0 c.args.core.now c.collect_all.new.core so.1 so.2)

pub returns-in_err-collect_all-clause-gathered : goal.returns-in_err-collect_all-clause-gathered
returns-in_err-collect_all-clause-gathered c =
    not_memory c.from_residual.result _ (Phase c.args.core.now c.collect_all.new.core (Gathered c.args.client c.args.waiting))
    c.from_residual.ensures.1 c.in_err-collect_all.ensures.memory
