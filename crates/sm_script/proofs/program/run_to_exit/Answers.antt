use Rattle.sm_script.proofs.program.run_to_exit.Goals as goal

pub returns : goal.returns
returns g c = record {
  outcome = c.report_run-ended.result;
  comes = rw c.full.ensures at c.report_run-ended.ensures;
  status_is = c.end_report.ensures.status;
  reported = c.end_report.ensures.told;
}
