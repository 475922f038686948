use Rattle.script_explain.proofs.Outcomes.{flushed-told}
use Rattle.script_explain.proofs.explain.end.Goals as goal

pub returns-then-has_summary : goal.returns-then-has_summary
returns-then-has_summary g c = λ scene knows. rw c.if-has_summary.true (c.put_summary.ensures scene knows)

pub returns-else-has_summary : goal.returns-else-has_summary
returns-else-has_summary g c = λ scene knows.
    rw c.if-has_summary.false (flushed-told _ _ c.flush.result c.flush.ensures.kept c.flush.ensures.err)
