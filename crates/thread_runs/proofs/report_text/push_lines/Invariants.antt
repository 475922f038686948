use Rattle.thread_runs.proofs.Common.{length, ◌++◌, ◌≡◌}
use Rattle.thread_runs.specs.Reports.{lines_text}
use Rattle.thread_runs.proofs.report_text.push_lines.Given as goal

abbrev pub invariant-loop-label : goal.invariant-loop-label
invariant-loop-label l =
    l.initial.text.items ++ lines_text l.front l.initial.labels l.initial.lines ≡ l.text.items ++ lines_text l.front l.labels l.lines

abbrev pub decreases-loop-label : goal.decreases-loop-label
decreases-loop-label l = length l.labels
