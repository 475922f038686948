use Rattle.event_facts.proofs.Common.{filter, take, ◌≡◌}
use Rattle.event_facts.specs.Facts.{is_awaited}
use Rattle.event_facts.proofs.waits.awaited.Given as goal

-- so far those among these nodes
abbrev pub invariant-loop-node : goal.invariant-loop-node
invariant-loop-node l = l.found.items ≡ filter (is_awaited l.head) (take l.node-index l.nodes.items)
