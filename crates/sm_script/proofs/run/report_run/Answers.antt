use Rattle.std.proofs.Common.{refl, subst}
use Rattle.sm_script.specs.Runs.{Runs}
use Rattle.sm_script.specs.Scenes.{Setting}
use Rattle.sm_script.proofs.Playing.{answered-none}
use Rattle.sm_script.proofs.Running.{runs-nothing}
use Rattle.sm_script.proofs.run.report_run.Goals as goal

pub returns-in-Ok : goal.returns-in-Ok
returns-in-Ok g c = subst (λ (setting : Setting). Runs setting (g.R.Read.remaining c.args.reader.now) (g.R.Read.remaining c.start.new.reader)
    (g.W.Write.contents c.args.writer.now) (g.W.Write.contents c.start.new.writer) c.start.result)
    (λ i. record { pool = c.in-Ok.ensures.pool i; limits = c.in-Ok.ensures.limits i }) c.start.ensures

pub returns-in-Err : goal.returns-in-Err
returns-in-Err g c = runs-nothing _ _ _

pub start-requires : goal.start-requires
start-requires g c = answered-none _ c.in-Ok.ensures.start
