use Rattle.std.proofs.Common.{[]}
use Rattle.history_laws.proofs.HistoryLaws.{AreAnswers-push, AreAnswers-last}
use Rattle.history_laws.proofs.histories.histories_grow.Goals as goal

pub returns-clause-answers : goal.returns-clause-answers
returns-clause-answers c pool limits history entry =
    (AreAnswers-last pool limits [] history entry, λ h. AreAnswers-push pool limits [] history entry h.0 h.1)
