use Rattle.std.proofs.Common.{Bool, subst}
use Rattle.report_io.proofs.ScriptsRead.{reads-nothing}
use Rattle.sm_script.specs.Scenes.{Setting}
use Rattle.script_explain.specs.Explanations.{Explains, WholeTold}
use Rattle.script_explain.proofs.explain.explain_script.Goals as goal

pub returns-in-Ok : goal.returns-in-Ok
returns-in-Ok g c =
    subst (λ (setting : Setting). Explains setting c.args.job.scope (g.R.Read.remaining c.args.reader.now)
    (g.R.Read.remaining c.explain_all.new.reader) (g.W.Write.contents c.args.writer.now) (g.W.Write.contents c.explain_all.new.writer)
    c.explain_all.result)
    (λ i. record { pool = c.in-Ok.ensures.pool i; limits = c.in-Ok.ensures.limits i })
    (subst (λ (only : Bool). Explains (record {
      pool = c.in-Ok.explainer.seen.event_writer.session.core.pool;
      limits = c.in-Ok.explainer.seen.event_writer.session.core.limits;
    })
    (record { only_failures = only; has_summary = c.args.job.scope.has_summary }) (g.R.Read.remaining c.args.reader.now)
    (g.R.Read.remaining c.explain_all.new.reader) (g.W.Write.contents c.args.writer.now) (g.W.Write.contents c.explain_all.new.writer)
    c.explain_all.result) c.in-Ok.ensures.scope c.explain_all.ensures)

pub returns-in-Err : goal.returns-in-Err
returns-in-Err g c =
    let old = g.W.Write.contents c.args.writer.now in
    reads-nothing (WholeTold (record { pool = c.args.job.pages.count; limits = c.args.limits }) c.args.job.scope old old)
    (g.R.Read.remaining c.args.reader.now) old
