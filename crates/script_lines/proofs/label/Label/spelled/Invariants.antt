use Rattle.std.proofs.Common.{◌≡◌, ◌≤◌, drop, length}
use Rattle.script_lines.specs.Labels.{spelled, text_of_label}
use Rattle.script_lines.proofs.label.Label.spelled.Given as goal

abbrev pub invariant-loop-start : goal.invariant-loop-start
invariant-loop-start l = (l.start ≤ 16) × (length l.bytes ≡ 16)
    × (spelled l.start l.code (drop l.start l.bytes) ≡ text_of_label l.self)

abbrev pub decreases-loop-start : goal.decreases-loop-start
decreases-loop-start l = l.start
