use Rattle.outcome_texts.proofs.Common.{take, ◌++◌, ◌≡◌}
use Rattle.outcome_texts.specs.Scripts.{calls_text}
use Rattle.outcome_texts.proofs.script.push_calls.Given as goal

-- so far the lines of these calls
abbrev pub invariant-loop-call : goal.invariant-loop-call
invariant-loop-call l = l.text.items ≡ l.fn.text.items ++ calls_text l.telling l.found (take l.call-index l.calls)
