use Rattle.thread_runs.proofs.Common.{first_unfit, length, ◌+◌, ◌≡◌}
use Rattle.thread_runs.proofs.company.first_unfit.Given as goal

-- so many were looked at, and what is left has the answer
abbrev pub invariant-looking : goal.invariant-looking
invariant-looking l = (l.at + length l.rest ≡ l.all) × (first_unfit l.count 0 l.entries ≡ first_unfit l.count l.at l.rest)

abbrev pub decreases-looking : goal.decreases-looking
decreases-looking l = length l.rest
