use Rattle.lifetime_core.proofs.Common.{recalling, ◌∙◌}
use Rattle.core_state.proofs.views.Shown.{given_shown}
use Rattle.lifetime_core.proofs.machine.Core.given.Goals as goal

pub returns-clause-shown : goal.returns-clause-shown
returns-clause-shown c gone history shows =
    c.buffers_of.ensures.value ∙ given_shown (recalling gone c.args.self.now) history shows c.args.collection
