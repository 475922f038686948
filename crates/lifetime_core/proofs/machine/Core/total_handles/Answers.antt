use Rattle.lifetime_core.proofs.Common.{recalling, ◌∙◌}
use Rattle.core_state.proofs.views.Shown.{total_shown}
use Rattle.lifetime_core.proofs.machine.Core.total_handles.Goals as goal

pub returns-clause-shown : goal.returns-clause-shown
returns-clause-shown c gone history shows =
    c.open_total.ensures ∙ total_shown (recalling gone c.args.self.now) history shows c.args.buffer c.args.strength
