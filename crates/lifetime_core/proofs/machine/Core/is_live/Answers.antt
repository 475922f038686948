use Rattle.lifetime_core.proofs.Common.{State, ap, recalling, ◌∙◌}
use Rattle.core_state.specs.Reads.{is_live_in}
use Rattle.core_state.proofs.views.Shown.{live_shown}
use Rattle.lifetime_core.proofs.machine.Core.is_live.Goals as goal

pub returns-clause-shown : goal.returns-clause-shown
returns-clause-shown c gone history shows =
    rw (c.is_live.ensures, c.node.ensures)
    (ap (λ (s : State). is_live_in s c.args.key) c.self.view_is
    ∙ live_shown (recalling gone c.args.self.now) history shows c.args.key)
