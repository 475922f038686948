use Rattle.event_facts.proofs.Common.{Node, filter, map, take, ◌≡◌}
use Rattle.event_facts.specs.Facts.{is_keeper}
use Rattle.event_facts.proofs.keepers.strong_live.Given as goal

-- so far those among these nodes
abbrev pub invariant-loop-node : goal.invariant-loop-node
invariant-loop-node l = l.keys.items ≡ map (λ (n : Node). n.key) (filter is_keeper (take l.node-index l.nodes.items))
