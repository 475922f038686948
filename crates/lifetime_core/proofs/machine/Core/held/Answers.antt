use Rattle.lifetime_core.proofs.Common.{IfOk-weaker, State, ap, recalling, subst, sym, ◌∙◌}
use Rattle.std.proofs.Common.{AllPairs}
use Rattle.forest_store.specs.Forest.{held_by_page}
use Rattle.core_state.proofs.views.Shown.{held_shown}
use Rattle.core_state.proofs.views.HeldApart.{EndsBefore, held_in_order}
use Rattle.core_state.proofs.views.Held.{HavePages, have_pages}
use Rattle.lifetime_core.proofs.machine.Core.held.Goals as goal

pub returns-clause-shown : goal.returns-clause-shown
returns-clause-shown c =
    let paged : HavePages c.args.self.now.forest =
    subst (λ (s : State). HavePages s.forest) c.self.view_is
    (have_pages c.self.inside.contents.pool c.self.inside.contents.forest c.self.invariant.whole.pages
    c.free_pages-free.ensures.sound) in
    IfOk-weaker c.held.result _ _
    (λ held is gone history shows. is ∙ (ap (λ (s : State). held_by_page s.forest) c.self.view_is
    ∙ held_shown (recalling gone c.args.self.now) history shows paged))
    c.held.ensures

pub returns-clause-apart : goal.returns-clause-apart
returns-clause-apart c =
    IfOk-weaker c.held.result _ _
    (λ held is. subst (AllPairs EndsBefore) (sym is)
    (held_in_order c.self.inside.contents.pool c.self.inside.contents.forest c.self.invariant.whole.pages
    c.free_pages-free.ensures.sound))
    c.held.ensures
