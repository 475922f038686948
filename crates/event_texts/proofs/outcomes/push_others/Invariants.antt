use Rattle.event_texts.proofs.Common.{Calls, Keeps, Names, flat_map, next_waited, take, ◌++◌, ◌≡◌}
use Rattle.event_texts.proofs.outcomes.push_others.Given as goal

-- those so far
abbrev pub invariant-loop-node : goal.invariant-loop-node
invariant-loop-node l = (names : Names) → Keeps l.tables names → Calls l.labels names →
    l.text.items ≡ l.initial.text.items ++ flat_map (next_waited names) (take l.node-index l.others)
