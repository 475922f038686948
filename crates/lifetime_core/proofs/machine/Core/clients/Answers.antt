use Rattle.lifetime_core.proofs.Common.{State, ap, map, recalling, ◌∙◌}
use Rattle.core_state.specs.State.{Client}
use Rattle.core_state.proofs.views.Shown.{clients_shown}
use Rattle.lifetime_core.proofs.machine.Core.clients.Goals as goal

pub returns-in-Ok-clause-shown : goal.returns-in-Ok-clause-shown
returns-in-Ok-clause-shown c gone history shows =
    let listed = rw c.deref.ensures.value at c.in-Ok.ensures in
    listed ∙ (ap (λ (s : State). map (λ (x : Client). x.id) s.clients) c.self.view_is
    ∙ clients_shown (recalling gone c.args.self.now) history shows)
