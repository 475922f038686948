use Rattle.outcome_texts.proofs.Common.{ends_of, ◌++◌, ◌≡◌}
use Rattle.outcome_texts.specs.Lists.{actors_lines}
use Rattle.outcome_texts.proofs.list.push_actors.Given as goal

-- so far those of the first clients
abbrev pub invariant-actors : goal.invariant-actors
invariant-actors l = l.text.items ≡ l.fn.text.items ++ actors_lines l.telling l.rank (ends_of l.outcome).actors l.actor
