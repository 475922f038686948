use Rattle.std.proofs.Common.{◌≡◌, take}
use Rattle.event_texts.specs.EventTexts.{camped_in}
use Rattle.event_texts.proofs.allocations.camped.Given as goal

-- the sum so far
abbrev pub invariant-loop-node : goal.invariant-loop-node
invariant-loop-node l = l.sum ≡ camped_in l.head (take l.node-index l.nodes)
