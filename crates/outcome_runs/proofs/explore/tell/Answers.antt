use Rattle.outcome_runs.proofs.Exploring.{stopped_same}
use Rattle.outcome_runs.proofs.explore.tell.Goals as goal

pub returns-in-Err-clause-err : goal.returns-in-Err-clause-err
returns-in-Err-clause-err g c = stopped_same _ _ _ c.in-Err.fault c.in-Err.ensures.err

pub returns-in-Ok-put_out-clause-ok : goal.returns-in-Ok-put_out-clause-ok
returns-in-Ok-put_out-clause-ok g c = record {
  text = c.in-Ok.told.text.items;
  told = c.in-Ok.ensures.ok;
  written = rw c.deref.ensures.value at c.in-Ok-put_out.ensures.ok;
}
