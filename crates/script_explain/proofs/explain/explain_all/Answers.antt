use Rattle.std.proofs.Common.{inl}
use Rattle.report_io.specs.Takings.{ScriptComes}
use Rattle.report_io.proofs.ScriptsRead.{reads-fault, reads-then}
use Rattle.sm_script.specs.Sessions.{setting_of}
use Rattle.script_explain.specs.declared.explain.Scope.{Scope}
use Rattle.script_explain.specs.Explanations.{WholeTold}
use Rattle.script_explain.specs.Progress.{Explained, Unexplained}
use Rattle.script_explain.proofs.Outcomes.{whole-told}
use Rattle.script_explain.proofs.Telling.{took-stops}
use Rattle.script_explain.proofs.explain.explain_all.Goals as goal

pub returns-in-Ok : goal.returns-in-Ok
returns-in-Ok g c =
    let first = c.args.explainer.now in
    let now = c.take_lines.new.taker in
    let scope : Scope = record { only_failures = first.only_failures; has_summary = c.args.has_summary } in
    let old = g.W.Write.contents c.args.writer.now in
    let mid = g.W.Write.contents c.take_lines.new.writer in
    let new = g.W.Write.contents c.end.new.writer in
    reads-then (ScriptComes (Explained first) (Unexplained first) now old mid)
    (WholeTold (setting_of first.seen.event_writer.session) scope old new)
    (g.R.Read.remaining c.args.reader.now) (g.R.Read.remaining c.take_lines.new.reader) old mid c.in-Ok.field-0 new c.end.result
    (λ script taken. whole-told first now c.args.has_summary old mid script c.in-Ok.field-0 taken new c.end.result c.end.ensures)
    c.in-Ok.ensures

pub returns-in-Err : goal.returns-in-Err
returns-in-Err g c =
    let first = c.args.explainer.now in
    let now = c.take_lines.new.taker in
    let scope : Scope = record { only_failures = first.only_failures; has_summary = c.args.has_summary } in
    let old = g.W.Write.contents c.args.writer.now in
    let mid = g.W.Write.contents c.take_lines.new.writer in
    reads-fault (ScriptComes (Explained first) (Unexplained first) now old mid)
    (WholeTold (setting_of first.seen.event_writer.session) scope old mid)
    (g.R.Read.remaining c.args.reader.now) (g.R.Read.remaining c.take_lines.new.reader) old mid c.in-Err.fault
    (λ script stops. inl (took-stops first now old mid script c.in-Err.fault stops)) c.in-Err.ensures
