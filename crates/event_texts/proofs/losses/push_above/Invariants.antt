use Rattle.event_texts.proofs.Common.{Keeps, Names, flat_map, next_above, take, ◌++◌, ◌≡◌}
use Rattle.event_texts.proofs.losses.push_above.Given as goal

-- those so far
abbrev pub invariant-loop-node : goal.invariant-loop-node
invariant-loop-node l = (names : Names) → Keeps l.tables names →
    l.text.items ≡ l.initial.text.items ++ flat_map (next_above names) (take l.node-index l.others)
