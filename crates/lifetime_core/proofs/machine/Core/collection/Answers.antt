use Rattle.lifetime_core.proofs.Common.{IfOk-weaker, State, ap, collection_at, collection_shown, recalling, ◌∙◌}
use Rattle.lifetime_core.proofs.machine.Core.collection.Goals as goal

pub returns-clause-shown : goal.returns-clause-shown
returns-clause-shown c =
    IfOk-weaker c.snapshot.result _ _
    (λ copied is gone history shows. is ∙ (ap (λ (s : State). collection_at s.forest c.args.id) c.self.view_is
    ∙ collection_shown (recalling gone c.args.self.now) history shows (λ o. o) c.args.id))
    c.snapshot.ensures.value
