use Rattle.outcome_texts.proofs.Common.{◌++◌, ◌≡◌}
use Rattle.outcome_texts.specs.Lists.{all_lines}
use Rattle.outcome_texts.proofs.list.push_outcomes.Given as goal

-- so far the first outcomes
abbrev pub invariant-outcomes : goal.invariant-outcomes
invariant-outcomes l = l.text.items ≡ l.fn.text.items ++ all_lines l.telling l.outcomes l.at
