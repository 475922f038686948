use Rattle.core_vanish.proofs.Common.{HasAmong, IsDrop, Lets, Phase, Whatever, subst, ◌∙◌}
use Rattle.core_vanish.proofs.PhaseLemmas.{none_left, on_fault}
use Rattle.core_vanish.proofs.PhaseSteps.{drop_held, drop_next, let_none, let_on}
use Rattle.core_vanish.proofs.vanishing.drop_all.Goals as goal

pub loop-buffer-init : goal.loop-buffer-init
loop-buffer-init c =
    drop_held c.args.core.now c.args.client c.as_slice-rest.result.now
    (c.as_slice-rest.ensures.value ∙ c.in-Ok.ensures.value)

pub loop-buffer-preserved : goal.loop-buffer-preserved
loop-buffer-preserved c =
    drop_next c.args.core.now c.loop-buffer.core c.drop_both.new.core c.args.client c.in-Some.buffer.now c.loop-buffer.rest.now
    c.in-Some.others.now c.in-Some.ensures.cases.0 c.loop-buffer.invariant c.in_ok-drop_both.ensures.ok

pub returns-in_err-drop_both-clause-err : goal.returns-in_err-drop_both-clause-err
returns-in_err-drop_both-clause-err c =
    on_fault c.from_residual.result (Phase c.args.core.now c.drop_both.new.core (Lets (IsDrop c.args.client) c.args.client Whatever))
    (let_on (IsDrop c.args.client) c.args.core.now c.loop-buffer.core c.drop_both.new.core c.args.client
    (HasAmong c.args.client c.loop-buffer.rest.now) Whatever c.loop-buffer.invariant c.in_err-drop_both.ensures.err)

pub returns-in_default-clause-err : goal.returns-in_default-clause-err
returns-in_default-clause-err c = let_none (IsDrop c.args.client) c.args.core.now c.args.client

pub returns-clause-ok : goal.returns-clause-ok
returns-clause-ok c =
    subst (λ rest. Phase c.args.core.now c.loop-buffer.core (Lets (IsDrop c.args.client) c.args.client (HasAmong c.args.client rest)))
    (none_left c.loop-buffer.rest.now c.in_default-split_first.ensures.cases) c.loop-buffer.invariant
