use Rattle.lifetime_core.proofs.Common.{ShowsBut, State, ap, subst, ◌∙◌}
use Rattle.core_state.proofs.views.Shown.{events_shown}
use Rattle.lifetime_core.proofs.machine.Core.events.Goals as goal

pub returns-clause-shown : goal.returns-clause-shown
returns-clause-shown c history shows = ap (λ (s : State). s.events) c.self.view_is ∙ events_shown c.args.self.now history shows

pub returns-clause-legal : goal.returns-clause-legal
returns-clause-legal c =
    let core = c.self.invariant in (
      core.gone,
      core.whole.history,
      subst (λ (s : State). ShowsBut core.gone s core.whole.history) c.self.view_is core.whole.shows,
    )
