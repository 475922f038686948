use Rattle.lifetime_core.proofs.Common.{State, ap, option_map, recalling, ◌∙◌}
use Rattle.core_state.specs.Reads.{fault_in}
use Rattle.core_state.proofs.views.Shown.{cause_shown, told_of}
use Rattle.lifetime_core.proofs.machine.Core.cause.Goals as goal

pub returns-clause-shown : goal.returns-clause-shown
returns-clause-shown c gone history shows =
    rw (c.cause.ensures, c.node.ensures)
    (ap (λ (s : State). option_map told_of (fault_in s c.args.key)) c.self.view_is
    ∙ cause_shown (recalling gone c.args.self.now) history shows c.args.key)
