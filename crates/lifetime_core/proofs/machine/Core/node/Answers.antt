use Rattle.lifetime_core.proofs.Common.{State, ap, node_at, recalling, ◌∙◌}
use Rattle.core_state.proofs.views.Shown.{node_shown}
use Rattle.lifetime_core.proofs.machine.Core.node.Goals as goal

pub returns-clause-shown : goal.returns-clause-shown
returns-clause-shown c gone history shows =
    rw (c.copied.ensures, c.node.ensures)
    (ap (λ (s : State). node_at s.forest c.args.key) c.self.view_is
    ∙ node_shown (recalling gone c.args.self.now) history shows c.args.key)
