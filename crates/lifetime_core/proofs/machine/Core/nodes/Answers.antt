use Rattle.lifetime_core.proofs.Common.{IfOk-weaker, State, ap, recalling, ◌∙◌}
use Rattle.forest_store.specs.Forest.{all_nodes}
use Rattle.core_state.proofs.views.Shown.{nodes_shown}
use Rattle.lifetime_core.proofs.machine.Core.nodes.Goals as goal

pub returns-clause-shown : goal.returns-clause-shown
returns-clause-shown c =
    IfOk-weaker c.nodes.result _ _
    (λ nodes is gone history shows. is ∙ (ap (λ (s : State). all_nodes s.forest) c.self.view_is
    ∙ nodes_shown (recalling gone c.args.self.now) history shows))
    c.nodes.ensures
