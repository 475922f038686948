use Rattle.std.proofs.Common.{◌∙◌, sym}
use Rattle.report_io.proofs.Numbering.{all_rest, first_line, later_line, later_rest, no_line}
use Rattle.report_io.proofs.actor_reasons.line_of_number.Goals as goal

-- the first of the lines that are left is the one
pub returns-then-left-le1-clause-line : goal.returns-then-left-le1-clause-line
returns-then-left-le1-clause-line c =
    first_line c.lines.rest.now c.in-Some.at c.lines.left (sym c.in-Some.ensures.value) c.if-left-le1.true
    ∙ c.lines.invariant.0

-- one line is passed
pub lines-preserved : goal.lines-preserved
lines-preserved c = rw c.behind-rest.ensures.value (
  later_line c.lines.rest.now c.in-Some.at c.lines.left (sym c.in-Some.ensures.value) c.if-left-le1.false
      ∙ c.lines.invariant.0,
  later_rest c.lines.rest.now c.in-Some.at (sym c.in-Some.ensures.value) ∙ c.lines.invariant.1,
)

-- no line is left
pub returns-clause-line : goal.returns-clause-line
returns-clause-line c =
    no_line c.lines.rest.now c.lines.left (sym c.in_default.ensures.value) ∙ c.lines.invariant.0

pub returns-clause-rest : goal.returns-clause-rest
returns-clause-rest c = λ _. all_rest c.lines.rest.now (sym c.in_default.ensures.value) ∙ c.lines.invariant.1
