use Rattle.actor_plays.proofs.Common.{map, take, ◌++◌, ◌≡◌}
use Rattle.actor_plays.specs.Fates.{end_told}
use Rattle.actor_plays.proofs.falls.push_ended.Given as goal

-- so far those of these nodes
abbrev pub invariant-loop-node : goal.invariant-loop-node
invariant-loop-node l = l.falls.items ≡ l.fn.falls.items ++ map end_told (take l.node-index l.nodes)
