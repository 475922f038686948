use Rattle.core_vanish.proofs.Common.{HoldsAmong, IsClose, Lets, Phase, Whatever, subst, ◌∙◌}
use Rattle.core_vanish.proofs.PhaseLemmas.{none_left, on_fault}
use Rattle.core_vanish.proofs.PhaseSteps.{close_first, close_next, let_none, let_on}
use Rattle.core_vanish.proofs.vanishing.close_all.Goals as goal

pub loop-node-init : goal.loop-node-init
loop-node-init c =
    close_first c.args.core.now c.args.client c.as_slice-rest.result.now (c.as_slice-rest.ensures.value ∙ c.in-Ok.ensures.value)

pub loop-node-preserved : goal.loop-node-preserved
loop-node-preserved c =
    close_next c.args.core.now c.loop-node.core c.close.new.core c.args.client c.in-Some.node.now c.loop-node.rest.now c.in-Some.others.now
    c.in-Some.ensures.cases.0 c.loop-node.invariant c.in_ok-close.ensures.ok

pub returns-in_err-close-clause-err : goal.returns-in_err-close-clause-err
returns-in_err-close-clause-err c =
    on_fault c.from_residual.result (Phase c.args.core.now c.close.new.core (Lets (IsClose c.args.client) c.args.client Whatever))
    (let_on (IsClose c.args.client) c.args.core.now c.loop-node.core c.close.new.core c.args.client
    (HoldsAmong c.args.client c.loop-node.rest.now) Whatever c.loop-node.invariant c.in_err-close.ensures.err)

pub returns-in_default-clause-err : goal.returns-in_default-clause-err
returns-in_default-clause-err c = let_none (IsClose c.args.client) c.args.core.now c.args.client

pub returns-clause-ok : goal.returns-clause-ok
returns-clause-ok c =
    subst (λ rest. Phase c.args.core.now c.loop-node.core (Lets (IsClose c.args.client) c.args.client (HoldsAmong c.args.client rest)))
    (none_left c.loop-node.rest.now c.in_default-split_first.ensures.cases) c.loop-node.invariant
