use Rattle.std.proofs.Common.{Err, ap, sym, ◌∙◌}
use Rattle.sm_script.specs.Faults.{script_result}
use Rattle.sm_script.proofs.run.run_script.Goals as goal

pub returns-in-Ok : goal.returns-in-Ok
returns-in-Ok g c =
    record { told = c.report_run.result; runs = c.report_run.ensures; is = sym (ap script_result c.in-Ok.is) }

pub returns-in-Err : goal.returns-in-Err
returns-in-Err g c = record {
  told = c.report_run.result;
  runs = c.report_run.ensures;
  is = ap Err c.from.ensures ∙ sym (ap script_result c.in-Err.is);
}
