use Rattle.std.proofs.Common.{sym, ◌∙◌}
use Rattle.report_io.proofs.Takings.{all-rest, taken-all, taken-behind, taken-last, taken-more, taken-none, taken-stop}
use Rattle.report_io.proofs.taking.Intake.take_piece.Goals as goal

pub lines-init : goal.lines-init
lines-init g c = taken-none _ _ _ _ _ _ _

pub lines-preserved : goal.lines-preserved
lines-preserved g c =
    taken-more _ _ _ _ _ _ _ _ _ _ _ _ c.lines.invariant c.in-Some.at (sym c.in-Some.ensures.value) _ _ _ _ _ c.in-Ok-true.ensures.empty
    c.behind-rest.ensures.value c.in-Some.ensures.within (rw c.in-Ok-true.field-0-test at c.in-Ok-true.ensures.ok)
    c.in-Ok-true.ensures.counted

pub returns-in-Ok-false-clause-ok : goal.returns-in-Ok-false-clause-ok
returns-in-Ok-false-clause-ok g c =
    taken-last _ _ _ _ _ _ _ _ _ _ _ _ c.lines.invariant c.in-Some.at (sym c.in-Some.ensures.value) _ _ _
    (rw c.in-Ok-false.field-0-test at c.in-Ok-false.ensures.ok)

pub returns-in-Err-clause-err : goal.returns-in-Err-clause-err
returns-in-Err-clause-err g c =
    taken-stop _ _ _ _ _ _ _ _ _ _ _ _ c.lines.invariant c.in-Some.at (sym c.in-Some.ensures.value) _ _ c.in-Err.fault
    c.in-Err.ensures.err

pub returns-in-Ok-clause-ok : goal.returns-in-Ok-clause-ok
returns-in-Ok-clause-ok g c = taken-all _ _ _ _ _ _ _ _ _ _ _ _ c.lines.invariant (sym c.in_default.ensures.value)

pub returns-in-Ok-clause-rest : goal.returns-in-Ok-clause-rest
returns-in-Ok-clause-rest g c = λ all.
    c.in-Ok.ensures.items ∙ sym (all-rest _ _ _ _ _ _ _ _ _ _ _ _ c.lines.invariant (sym c.in_default.ensures.value))

pub returns-in-Err-extend_from_slice-clause-err : goal.returns-in-Err-extend_from_slice-clause-err
returns-in-Err-extend_from_slice-clause-err g c =
    taken-behind _ _ _ _ _ _ _ _ _ _ _ _ c.lines.invariant (sym c.in_default.ensures.value) _ _
    (sym c.is_empty.ensures ∙ c.if-is_empty.false) c.give_up.ensures
