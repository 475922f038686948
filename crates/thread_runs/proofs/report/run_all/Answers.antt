use Rattle.thread_runs.proofs.Common.{AllZip-long, arith, sym, ◌∙◌}
use Rattle.std.proofs.lemmas.Result.{IfOk-weaker}
use Rattle.thread_runs.proofs.EndLaws.{late-first}
use Rattle.thread_runs.proofs.ReportLaws.{is-told}
use Rattle.thread_runs.proofs.report.run_all.Goals as goal

pub part_all-requires-clause-room : goal.part_all-requires-clause-room
part_all-requires-clause-room g c =
    omega (
      arith,
      c.in-Ok.ensures.len,
      c.in-Ok.ensures.capacity,
      c.len.ensures,
      c.as_slice-scripts.ensures.len,
      c.as_slice-scripts.ensures.value,
      c.in-Ok-run_actors.ends.ok,
      AllZip-long _ _ _ c.in-Ok-run_actors.ensures.ran,
    )

pub returns-in-Some-clause-late : goal.returns-in-Some-clause-late
returns-in-Some-clause-late g c = late-first c.in-Ok-run_actors.ends.items c.in-Some.fault (sym c.part_all.ensures.fault ∙ c.in-Some.is)

pub returns-in-None-clause-ok : goal.returns-in-None-clause-ok
returns-in-None-clause-ok g c =
    IfOk-weaker c.tell.result.1 _ _
    (λ text told. is-told _ _ _ _ c.args.list.now _ _
    (rw c.as_slice-scripts.ensures.value at c.in-Ok-run_actors.ensures.ran) c.part_all.ensures.left
    (sym c.part_all.ensures.fault ∙ c.in-None.is) text.items told)
    (rw c.as_slice.ensures.value at c.tell.ensures.ok)
