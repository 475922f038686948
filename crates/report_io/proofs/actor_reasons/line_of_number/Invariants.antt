use Rattle.std.proofs.Common.{◌≡◌, length}
use Rattle.script_lines.specs.Pieces.{last_part}
use Rattle.report_io.specs.ActorReasons.{line_at}
use Rattle.report_io.proofs.actor_reasons.line_of_number.Given as goal

-- the line that is left to be counted is the line of the number, and what is left ends as the script does
abbrev pub invariant-lines : goal.invariant-lines
invariant-lines l = (line_at l.rest l.left ≡ line_at l.script l.number) × (last_part l.rest ≡ last_part l.script)

abbrev pub decreases-lines : goal.decreases-lines
decreases-lines l = length l.rest
