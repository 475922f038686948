use Rattle.outcome_texts.proofs.Common.{◌++◌, ◌≡◌}
use Rattle.outcome_texts.specs.Vanishing.{whom_below}
use Rattle.outcome_texts.proofs.vanishing.push_whom.Given as goal

-- so far those of the first clients that may
abbrev pub invariant-actors : goal.invariant-actors
invariant-actors l = l.text.items ≡ l.fn.text.items ++ whom_below l.labels l.who l.actor
