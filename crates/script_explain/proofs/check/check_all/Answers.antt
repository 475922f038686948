use Rattle.std.proofs.Common.{Bool, true, false, Ok, Err, refl}
use Rattle.std.specs.Prelude.{List, ℕ, Option, Result}
use Rattle.report_io.specs.declared.fault.ReportFault.{ReportFault}
use Rattle.report_io.specs.Takings.{ScriptComes}
use Rattle.report_io.proofs.ScriptsRead.{reads-fault, reads-then}
use Rattle.sm_script.specs.Sessions.{setting_of}
use Rattle.script_explain.specs.declared.check.CheckResult.{CheckResult}
use Rattle.script_explain.specs.declared.check.Comparison.{Comparison}
use Rattle.script_explain.specs.Comparisons.{CheckTold}
use Rattle.script_explain.specs.Progress.{ComparedFrom, Unchecked}
use Rattle.script_explain.proofs.Comparing.{agrees-told, differs-told, took-stops}
use Rattle.script_explain.proofs.check.check_all.Goals as goal

-- what came of the lines
abbrev Comes : Comparison → Comparison → Option (List ℕ) → Option (List ℕ) → List ℕ → Result Bool ReportFault → Type 0
Comes first now old mid = ScriptComes (ComparedFrom first) (Unchecked first) now old mid

-- what is told of it
abbrev Told : Comparison → Option (List ℕ) → Option (List ℕ) → List ℕ → Result CheckResult ReportFault → Type 0
Told first old new = CheckTold (setting_of first.event_writer.session) old new

-- all replies agree
pub returns-in-Ok-true : goal.returns-in-Ok-true
returns-in-Ok-true g c =
    let first = c.args.comparison.now in
    let now = c.take_lines.new.taker in
    let old = g.W.Write.contents c.args.writer.now in
    let mid = g.W.Write.contents c.take_lines.new.writer in
    let new = g.W.Write.contents c.agree.new.writer in
    reads-then (Comes first now old mid) (Told first old new) (g.R.Read.remaining c.args.reader.now)
    (g.R.Read.remaining c.take_lines.new.reader) old mid true new c.agree.result
    (λ script taken. agrees-told first now old script mid new c.agree.result taken c.agree.ensures)
    (rw c.in-Ok-true.field-0-test at c.in-Ok-true.ensures)

-- one differs
pub returns-in-Ok : goal.returns-in-Ok
returns-in-Ok g c =
    let first = c.args.comparison.now in
    let now = c.take_lines.new.taker in
    let old = g.W.Write.contents c.args.writer.now in
    let mid = g.W.Write.contents c.take_lines.new.writer in
    let new = g.W.Write.contents c.flush.new.writer in
    reads-then (Comes first now old mid) (Told first old new) (g.R.Read.remaining c.args.reader.now)
    (g.R.Read.remaining c.take_lines.new.reader) old mid false new (Ok CheckResult.Differs)
    (λ script taken. differs-told first now old script mid new (Ok CheckResult.Differs) taken c.flush.ensures.kept refl tt)
    (rw c.in-Ok-false.field-0-test at c.in-Ok-false.ensures)

-- the same, where the writer could not be flushed
pub returns-in-Err-flush : goal.returns-in-Err-flush
returns-in-Err-flush g c =
    let first = c.args.comparison.now in
    let now = c.take_lines.new.taker in
    let old = g.W.Write.contents c.args.writer.now in
    let mid = g.W.Write.contents c.take_lines.new.writer in
    let new = g.W.Write.contents c.flush.new.writer in
    reads-then (Comes first now old mid) (Told first old new) (g.R.Read.remaining c.args.reader.now)
    (g.R.Read.remaining c.take_lines.new.reader) old mid false new (Err c.in-Err-flush.fault)
    (λ script taken. differs-told first now old script mid new (Err c.in-Err-flush.fault) taken c.flush.ensures.kept tt
    c.in-Err-flush.ensures.err)
    (rw c.in-Ok-false.field-0-test at c.in-Ok-false.ensures)

-- not all lines were compared
pub returns-in-Err : goal.returns-in-Err
returns-in-Err g c =
    let first = c.args.comparison.now in
    let now = c.take_lines.new.taker in
    let old = g.W.Write.contents c.args.writer.now in
    let mid = g.W.Write.contents c.take_lines.new.writer in
    reads-fault (Comes first now old mid) (Told first old mid) (g.R.Read.remaining c.args.reader.now)
    (g.R.Read.remaining c.take_lines.new.reader) old mid c.in-Err.fault
    (λ script stops. took-stops first now old script mid c.in-Err.fault stops) c.in-Err.ensures
