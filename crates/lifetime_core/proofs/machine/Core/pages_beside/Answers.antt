use Rattle.lifetime_core.proofs.Common.{IfOk-weaker, State, ap, recalling, ◌∙◌}
use Rattle.forest_store.specs.Forest.{beside}
use Rattle.core_state.proofs.views.Shown.{beside_shown}
use Rattle.lifetime_core.proofs.machine.Core.pages_beside.Goals as goal

pub returns-clause-shown : goal.returns-clause-shown
returns-clause-shown c =
    IfOk-weaker c.pages_beside.result _ _
    (λ pages is gone history shows. is ∙ (ap (λ (s : State). beside s.forest c.args.collection) c.self.view_is
    ∙ beside_shown (recalling gone c.args.self.now) history shows c.args.collection))
    c.pages_beside.ensures
