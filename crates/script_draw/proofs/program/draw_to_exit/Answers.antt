use Rattle.script_draw.proofs.program.draw_to_exit.Goals as goal

pub returns-clause-ends : goal.returns-clause-ends
returns-clause-ends g c = record {
  outcome = c.draw_script-ended.result;
  comes = rw c.full.ensures at c.draw_script-ended.ensures;
  status_is = c.end_report.ensures.status;
  reported = c.end_report.ensures.told;
}
