use Rattle.thread_runs.proofs.Common.{first_stray, ids_of, length, line_client, map, ◌≡◌}
use Rattle.thread_runs.proofs.report.first_stray.Given as goal

-- what is left has the answer
abbrev pub invariant-comparing : goal.invariant-comparing
invariant-comparing g l =
    first_stray (map line_client l.lines) (ids_of l.parts) ≡ first_stray (map line_client l.left) (ids_of l.rest)

abbrev pub decreases-comparing : goal.decreases-comparing
decreases-comparing g l = length l.rest
