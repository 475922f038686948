use Rattle.std.proofs.Common.{subst}
use Rattle.report_io.proofs.ScriptsRead.{reads-nothing}
use Rattle.sm_script.specs.Scenes.{Setting}
use Rattle.script_explain.specs.Comparisons.{CheckTold, Checks}
use Rattle.script_explain.proofs.check.check_script.Goals as goal

pub returns-in-Ok : goal.returns-in-Ok
returns-in-Ok g c = subst (λ (setting : Setting). Checks setting (g.R.Read.remaining c.args.reader.now)
    (g.R.Read.remaining c.check_all.new.reader) (g.W.Write.contents c.args.writer.now) (g.W.Write.contents c.check_all.new.writer)
    c.check_all.result)
    (λ i. record { pool = c.in-Ok.ensures.pool i; limits = c.in-Ok.ensures.limits i }) c.check_all.ensures

pub returns-in-Err : goal.returns-in-Err
returns-in-Err g c =
    let old = g.W.Write.contents c.args.writer.now in
    reads-nothing (CheckTold (record { pool = c.args.pages; limits = c.args.limits }) old old) (g.R.Read.remaining c.args.reader.now) old
