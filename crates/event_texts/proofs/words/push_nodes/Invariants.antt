use Rattle.event_texts.proofs.Common.{Keeps, Names, flat_map, node_text, take, ◌++◌, ◌≡◌}
use Rattle.event_texts.proofs.words.push_nodes.Given as goal

abbrev pub invariant-loop-node : goal.invariant-loop-node
invariant-loop-node l = (names : Names) → Keeps l.tables names →
    l.text.items ≡ l.initial.text.items ++ flat_map (node_text names) (take l.node-index l.nodes)
