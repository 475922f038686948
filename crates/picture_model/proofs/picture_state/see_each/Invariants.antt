use Rattle.picture_model.proofs.Common.{FindsNodes, List, Node, map, seen_again, take, ◌≡◌}
use Rattle.picture_model.proofs.picture_state.see_each.Given as goal

-- those so far
abbrev pub invariant-loop-node : goal.invariant-loop-node
invariant-loop-node l = (later : List Node) → FindsNodes l.walk later →
    l.again.items ≡ map (seen_again l.core later) (take l.node-index l.nodes.items)
