use Rattle.picture_model.proofs.Common.{map, seen_in, take, ◌≡◌}
use Rattle.picture_model.proofs.picture.seen_now.Given as goal

-- so far these nodes
abbrev pub invariant-loop-node : goal.invariant-loop-node
invariant-loop-node l = l.seen.items ≡ map (seen_in l.core) (take l.node-index l.nodes.items)
