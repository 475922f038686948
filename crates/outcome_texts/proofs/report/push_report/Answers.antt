use Rattle.outcome_texts.proofs.Common.{on_ok_weaker}
use Rattle.outcome_texts.proofs.report.push_report.Goals as goal

pub returns : goal.returns
returns c = on_ok_weaker c.push_told.result
    (λ is. record { orders = c.deref-2.result.now; rows = c.deref-3.result.now; appended = is })
    c.push_told.ensures
