use Rattle.std.proofs.Common.{◌≡◌, ℕ, ◌+◌, true, List, [], ◌∷◌, ◌++◌, length, append-nil, sym, ◌∙◌, ◌⊎◌, inr}
use Rattle.std.proofs.lemmas.Result.{IfErr-weaker, IfOk-weaker}
use Rattle.report_io.specs.declared.fault.ReportFault.{ReportFault}
use Rattle.report_io.specs.Takings.{Gains}
use Rattle.sm_script.specs.Sessions.{setting_of}
use Rattle.script_explain.specs.declared.check.Comparison.{Comparison}
use Rattle.script_explain.specs.Progress.{ComparedFrom, Unchecked}
use Rattle.script_explain.proofs.Comparing.{behind-none, far-remark, records-from, remark-from}
use Rattle.script_explain.proofs.check.ComparisonTakesLines.take_line.Goals as goal

-- the line was played
pub returns-in-Ok-clause-ok : goal.returns-in-Ok-clause-ok
returns-in-Ok-clause-ok c = λ first lines whole so_far numbered. (
  [],
  sym (append-nil _),
  (
    append-nil whole ∙ so_far.0,
    c.in-Ok.ensures.ok (setting_of first.event_writer.session) lines (behind-none c.args.line.now c.in-None.ensures) so_far.1 numbered,
  ),
)

-- or was not
pub returns-in-Err-clause-err : goal.returns-in-Err-clause-err
returns-in-Err-clause-err c = inr (λ first lines whole so_far numbered.
    c.in-Err.ensures.err (setting_of first.event_writer.session) lines whole (behind-none c.args.line.now c.in-None.ensures) so_far numbered)

-- a remark is passed over
pub returns-then-is_indented-clause-ok : goal.returns-then-is_indented-clause-ok
returns-then-is_indented-clause-ok c = λ first lines whole so_far numbered. (
  [],
  sym (append-nil _),
  (
    append-nil whole ∙ so_far.0,
    far-remark (setting_of first.event_writer.session) c.args.self.now lines so_far.1 c.args.line.now
        (remark-from c.args.line.now c.in-Some.recorded.now c.in-Some.ensures (sym c.is_indented.ensures ∙ c.if-is_indented.true)),
  ),
)

-- a reply was compared
pub returns-else-is_indented-clause-ok : goal.returns-else-is_indented-clause-ok
returns-else-is_indented-clause-ok c = IfOk-weaker c.compare.result _
    (λ more. (first : Comparison) (lines : List (List ℕ)) (whole : List ℕ) → ComparedFrom first c.args.self.now true lines whole →
    c.args.number ≡ length lines + 1 → Gains (ComparedFrom first c.compare.new.self more (lines ++ c.args.line.now ∷ [])) whole
    c.args.text.now.items c.compare.new.text.items)
    (λ more gains first lines whole. gains (setting_of first.event_writer.session) lines c.args.line.now whole
    (records-from c.args.line.now c.in-Some.recorded.now c.in-Some.ensures (sym c.is_indented.ensures ∙ c.if-is_indented.false)))
    c.compare.ensures.ok

-- or was not
pub returns-else-is_indented-clause-err : goal.returns-else-is_indented-clause-err
returns-else-is_indented-clause-err c = IfErr-weaker c.compare.result _
    (λ fault. (fault ≡ ReportFault.NoMemory) ⊎ ((first : Comparison) (lines : List (List ℕ)) (whole : List ℕ) →
    ComparedFrom first c.args.self.now true lines whole → c.args.number ≡ length lines + 1 →
    Unchecked first c.compare.new.self lines whole c.args.line.now fault))
    (λ fault unchecked. inr (λ first lines whole. unchecked (setting_of first.event_writer.session) lines c.args.line.now whole
    (records-from c.args.line.now c.in-Some.recorded.now c.in-Some.ensures (sym c.is_indented.ensures ∙ c.if-is_indented.false))))
    c.compare.ensures.err
