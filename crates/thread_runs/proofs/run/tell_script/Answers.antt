use Rattle.thread_runs.proofs.Common.{actors_of, refl}
use Rattle.thread_runs.proofs.Failing.{late-not-told, read-as}
use Rattle.thread_runs.proofs.run.tell_script.Goals as goal

pub returns-in-Ok-tell_all-clause-ok : goal.returns-in-Ok-tell_all-clause-ok
returns-in-Ok-tell_all-clause-ok g c = record {
  company = actors_of c.in-Ok.list;
  read = read-as _ _ c.in-Ok.list c.in-Ok.ensures.actors;
  text = c.in-Ok-tell_all.text.items;
  is_told = c.in-Ok-tell_all.ensures.ok;
  written = refl;
}

pub returns-clause-err : goal.returns-clause-err
returns-clause-err g c =
    late-not-told _ _ c.in-Ok.list c.in-Ok.ensures.actors c.in-Err-tell_all.fault c.in-Err-tell_all.ensures.late
