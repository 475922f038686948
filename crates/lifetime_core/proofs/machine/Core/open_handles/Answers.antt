use Rattle.lifetime_core.proofs.Common.{State, ap, recalling, ◌∙◌}
use Rattle.buffer_holds.specs.Counts.{of}
use Rattle.core_state.proofs.views.Shown.{open_shown}
use Rattle.lifetime_core.proofs.machine.Core.open_handles.Goals as goal

pub returns-clause-shown : goal.returns-clause-shown
returns-clause-shown c gone history shows =
    rw c.of.ensures (ap (λ (s : State). of s.holds c.args.client c.args.buffer c.args.strength) c.self.view_is
    ∙ open_shown (recalling gone c.args.self.now) history shows c.args.client c.args.buffer c.args.strength)
