use Rattle.outcome_texts.proofs.Common.{joins_text, take, ◌++◌, ◌≡◌}
use Rattle.outcome_texts.proofs.script.push_joins.Given as goal

-- so far the joins of these clients
abbrev pub invariant-loop-label : goal.invariant-loop-label
invariant-loop-label l = l.text.items ≡ l.fn.text.items ++ joins_text (take l.label-index l.labels)
