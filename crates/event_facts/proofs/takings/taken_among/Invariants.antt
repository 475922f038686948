use Rattle.event_facts.proofs.Common.{filter, has, take, ◌≡◌}
use Rattle.event_facts.specs.Facts.{is_taken_of}
use Rattle.event_facts.proofs.takings.taken_among.Given as goal

-- so far those among these nodes
abbrev pub invariant-loop-node : goal.invariant-loop-node
invariant-loop-node l = l.taken.items ≡ filter (is_taken_of (has l.under)) (take l.node-index l.nodes.items)
