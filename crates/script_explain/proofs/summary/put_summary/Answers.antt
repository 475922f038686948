use Rattle.std.proofs.Common.{List, ℕ, refl, inr, subst, ◌∙◌}
use Rattle.std.proofs.KnownBytes.{Appends-nil}
use Rattle.script_explain.specs.Progress.{SummaryTold}
use Rattle.script_explain.proofs.Outcomes.{put-told}
use Rattle.script_explain.proofs.summary.put_summary.Goals as goal

pub returns-in-Ok : goal.returns-in-Ok
returns-in-Ok g c = λ scene knows.
    subst (λ (text : List ℕ). SummaryTold (g.W.Write.contents c.args.writer.now) (g.W.Write.contents c.put_out.new.writer) text
    c.put_out.result) (c.deref.ensures.value ∙ c.in-Ok.ensures scene knows)
    (put-told _ _ _ c.put_out.result c.put_out.ensures.ok c.put_out.ensures.err)

pub returns-in-Err : goal.returns-in-Err
returns-in-Err g c = λ scene knows. inr (refl, Appends-nil _)
