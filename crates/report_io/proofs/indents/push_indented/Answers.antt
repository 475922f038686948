use Rattle.std.proofs.Common.{◌∙◌, ◌++◌, ◌+◌, drop, take, append_assoc, append-nil, ap, sym}
use Rattle.std.proofs.lemmas.List.{take_rest}
use Rattle.report_io.specs.IndentedLines.{fact_line, indented}
use Rattle.report_io.proofs.Indenting.{indented-first, indented-none}
use Rattle.report_io.proofs.indents.push_indented.Goals as goal

-- the first of the lines that are left comes behind what is there
pub lines-preserved : goal.lines-preserved
lines-preserved c =
    ap (λ left. c.push_parts.new.text.items ++ indented left) (take_rest c.lines.rest.now (c.in-Some.at + 1))
    ∙ ap (λ text. text ++ indented (drop (c.in-Some.at + 1) c.lines.rest.now)) c.in_ok-push_parts.ensures
    ∙ append_assoc c.lines.text.items (fact_line (take c.in-Some.at c.lines.rest.now))
    (indented (drop (c.in-Some.at + 1) c.lines.rest.now))
    ∙ ap (λ more. c.lines.text.items ++ more) (sym (indented-first c.lines.rest.now c.in-Some.at (sym c.in-Some.ensures.value)))
    ∙ c.lines.invariant

pub returns : goal.returns
returns c =
    sym (append-nil c.lines.text.items)
    ∙ ap (λ more. c.lines.text.items ++ more) (sym (indented-none c.lines.rest.now (sym c.in_default.ensures.value)))
    ∙ c.lines.invariant
