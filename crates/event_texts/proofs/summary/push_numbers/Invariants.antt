use Rattle.event_texts.proofs.Common.{flat_map, number_text, take, ◌++◌, ◌≡◌}
use Rattle.event_texts.proofs.summary.push_numbers.Given as goal

-- those so far
abbrev pub invariant-loop-number : goal.invariant-loop-number
invariant-loop-number l = l.text.items ≡ l.initial.text.items ++ flat_map number_text (take l.number-index l.numbers)
