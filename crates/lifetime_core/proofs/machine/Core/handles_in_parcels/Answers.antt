use Rattle.lifetime_core.proofs.Common.{State, ap, recalling, ◌∙◌}
use Rattle.buffer_holds.specs.Counts.{moving_count}
use Rattle.core_state.proofs.views.Shown.{moving_shown}
use Rattle.lifetime_core.proofs.machine.Core.handles_in_parcels.Goals as goal

pub returns-clause-shown : goal.returns-clause-shown
returns-clause-shown c gone history shows =
    rw c.moving.ensures (ap (λ (s : State). moving_count s.holds c.args.buffer c.args.strength) c.self.view_is
    ∙ moving_shown (recalling gone c.args.self.now) history shows c.args.buffer c.args.strength)
