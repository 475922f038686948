use Rattle.event_facts.proofs.Common.{Node, NodeKey, filter, has, map, take, values_at, ◌≡◌}
use Rattle.event_facts.specs.Facts.{is_handed_past}
use Rattle.event_facts.proofs.takings.handed_past.Given as goal

-- those among the nodes so far
abbrev pub invariant-loop-node : goal.invariant-loop-node
invariant-loop-node l = (above : NodeKey) → values_at l.rows above
    ≡ map (λ (n : Node). n.key) (filter (is_handed_past (has l.passed) above) (take l.node-index l.taken.items))
