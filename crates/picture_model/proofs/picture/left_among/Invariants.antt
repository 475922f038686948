use Rattle.picture_model.proofs.Common.{FindsNodes, List, Node, filter, map, take, ◌≡◌}
use Rattle.picture_model.specs.Shown.{has_gone}
use Rattle.picture_model.proofs.picture.left_among.Given as goal

-- so far those among these nodes
abbrev pub invariant-loop-node : goal.invariant-loop-node
invariant-loop-node l = (found : List Node) → FindsNodes l.earlier found →
    l.left.items ≡ map (λ (n : Node). n.key) (filter (has_gone found) (take l.node-index l.nodes.items))
