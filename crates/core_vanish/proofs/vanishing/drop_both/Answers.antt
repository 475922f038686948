use Rattle.core_vanish.proofs.Common.{IsDrop, Strength, Whatever, on_err_weaker, on_ok_weaker, open_of, ◌≡◌}
use Rattle.core_vanish.proofs.PhaseSteps.{drop_strengths, let_on}
use Rattle.core_vanish.proofs.vanishing.drop_both.Goals as goal

pub returns-clause-ok : goal.returns-clause-ok
returns-clause-ok c =
    on_ok_weaker c.drop_each-2.result
    (λ q. drop_strengths c.args.core.now c.drop_each.new.core c.drop_each-2.new.core c.args.client c.args.buffer
    c.in_ok-drop_each.ensures.ok q) c.drop_each-2.ensures.ok

pub returns-clause-err : goal.returns-clause-err
returns-clause-err c =
    on_err_weaker c.drop_each-2.result
    (λ q. let_on (IsDrop c.args.client) c.args.core.now c.drop_each.new.core c.drop_each-2.new.core c.args.client (λ later.
    open_of later c.args.client c.args.buffer Strength.Strong ≡ 0) Whatever c.in_ok-drop_each.ensures.ok q) c.drop_each-2.ensures.err
