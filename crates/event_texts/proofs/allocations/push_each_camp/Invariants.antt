use Rattle.event_texts.proofs.Common.{Keeps, Names, camp_text, flat_map, take, ◌++◌, ◌≡◌}
use Rattle.event_texts.proofs.allocations.push_each_camp.Given as goal

-- those so far
abbrev pub invariant-loop-node : goal.invariant-loop-node
invariant-loop-node l = (names : Names) → Keeps l.tables names →
    l.text.items ≡ l.initial.text.items ++ flat_map (camp_text names l.head) (take l.node-index l.nodes)
