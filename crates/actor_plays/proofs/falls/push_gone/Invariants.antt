use Rattle.actor_plays.proofs.Common.{map, take, ◌++◌, ◌≡◌}
use Rattle.std.specs.List.{filter}
use Rattle.forest_store.specs.declared.node.Node.{Node}
use Rattle.actor_plays.specs.Fates.{fall_told}
use Rattle.actor_plays.proofs.falls.push_gone.Given as goal

-- so far those of these nodes
abbrev pub invariant-loop-node : goal.invariant-loop-node
invariant-loop-node l = l.falls.items ≡ l.fn.falls.items ++ map fall_told (filter (λ (n : Node). n.gone) (take l.node-index l.nodes))
