use Rattle.event_laws.proofs.Common.{client_line, joined_from, length, lines_of, map, ◌++◌, ◌+◌, ◌≡◌}
use Rattle.event_laws.proofs.parts.Parts.lines.Given as goal

-- the lines so far, and those that are left
abbrev pub invariant-loop-entry : goal.invariant-loop-entry
invariant-loop-entry l = record {
  lines : l.lines.items ++ map (client_line l.self) (joined_from l.event l.rest) ≡ lines_of l.self;
  event : l.event + length l.rest ≡ length l.self + 1;
}

abbrev pub decreases-loop-entry : goal.decreases-loop-entry
decreases-loop-entry l = length l.rest
