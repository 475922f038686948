use Rattle.lifetime_core.proofs.Common.{IfOk-weaker, State, ap, recalling, ◌∙◌}
use Rattle.forest_store.specs.Forest.{live_keys}
use Rattle.core_state.proofs.views.Shown.{live_keys_shown}
use Rattle.lifetime_core.proofs.machine.Core.live.Goals as goal

pub returns-clause-shown : goal.returns-clause-shown
returns-clause-shown c =
    IfOk-weaker c.live.result _ _
    (λ keys is gone history shows. is ∙ (ap (λ (s : State). live_keys s.forest) c.self.view_is
    ∙ live_keys_shown (recalling gone c.args.self.now) history shows))
    c.live.ensures
