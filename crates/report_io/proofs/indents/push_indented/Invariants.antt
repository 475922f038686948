use Rattle.std.proofs.Common.{◌≡◌, ◌++◌, length}
use Rattle.report_io.specs.IndentedLines.{indented}
use Rattle.report_io.proofs.indents.push_indented.Given as goal

-- what is there, with the lines that are left, is all
abbrev pub invariant-lines : goal.invariant-lines
invariant-lines l = l.text.items ++ indented l.rest ≡ l.initial.text.items ++ indented l.lines

abbrev pub decreases-lines : goal.decreases-lines
decreases-lines l = length l.rest
