use Rattle.outcome_texts.proofs.Common.{MOST_BYTES, length, steps_from, steps_in, whole_lines, ◌++◌, ◌+◌, ◌≡◌, ◌≤◌}
use Rattle.outcome_texts.specs.Lines.{step_lines_of}
use Rattle.outcome_texts.proofs.lines.step_lines.Given as goal

-- the steps so far, with those of the lines that are left, are all; no more lines came than bytes
abbrev pub invariant-lines : goal.invariant-lines
invariant-lines l =
    (steps_in l.steps.items ++ steps_from l.labels l.number (whole_lines l.rest) ≡ step_lines_of l.labels l.script)
    × (l.number + length l.rest ≤ MOST_BYTES + 1)

abbrev pub decreases-lines : goal.decreases-lines
decreases-lines l = length l.rest
