use Rattle.thread_runs.proofs.Common.{Appends}
use Rattle.thread_runs.proofs.Failing.{written-told}
use Rattle.thread_runs.proofs.run.run_threads.Goals as goal

-- the text that was told was written
pub returns-in-Ok-put_out : goal.returns-in-Ok-put_out
returns-in-Ok-put_out g c = written-told _ _ _ _ _ _ c.in-Ok.text.items c.in-Ok.ensures.ok
    (Appends (g.O.Write.contents c.args.writer.now) (g.O.Write.contents c.put_out.new.writer))
    (rw c.deref.ensures.value at c.in-Ok-put_out.ensures.ok)
