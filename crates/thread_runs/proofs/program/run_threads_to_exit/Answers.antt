use Rattle.thread_runs.proofs.Endings.{ends-told, ends-unread, ends-untold}
use Rattle.thread_runs.proofs.program.run_threads_to_exit.Goals as goal

pub returns-in-Err : goal.returns-in-Err
returns-in-Err g c =
    ends-unread _ _ _ _ _ _ _ _ c.in-Err.fault _ c.in-Err.ensures.err c.end_with.ensures.told c.end_with.ensures.status

pub returns-in-Ok-tell_script : goal.returns-in-Ok-tell_script
returns-in-Ok-tell_script g c =
    ends-told _ _ _ _ _ _ c.in-Ok.script.items c.in-Ok.ensures.ok c.in-Ok.ensures.end c.in-Ok.ensures.within _ c.in-Ok-tell_script.text.items
    (rw c.full.ensures at (rw c.as_slice-rest.ensures.value at c.in-Ok-tell_script.ensures.ok)) _ _ _ c.put_out.result _
    (rw c.deref.ensures.value at c.put_out.ensures.ok) (rw c.deref.ensures.value at c.put_out.ensures.err)
    c.end_report.ensures.status c.end_report.ensures.told

pub returns : goal.returns
returns g c =
    ends-untold _ _ _ _ _ _ c.in-Ok.script.items c.in-Ok.ensures.ok c.in-Ok.ensures.end c.in-Ok.ensures.within _ _ _ _
    c.in-Err-tell_script.fault (rw c.as_slice-rest.ensures.value at c.in-Err-tell_script.ensures.err)
    (rw c.deref-in-Err-tell_script.ensures.value at c.end_untold.ensures)
