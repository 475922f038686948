use Rattle.service_lock.proofs.Common.{SomeCoreCame, View, refl, subst}
use Rattle.service_lock.proofs.ComingLaws.{some_core_came}
use Rattle.service_lock.proofs.state.entries.Goals as goal

-- the core came by the record
pub returns-clause-came : goal.returns-clause-came
returns-clause-came g c = subst (λ (s : View). SomeCoreCame s.pool s.limits s.history) c.state.view_is
    (some_core_came c.state.inside.log.items c.state.inside.core c.state.inside.core.pool c.state.inside.limits c.state.invariant.came refl
    c.state.invariant.limited)
