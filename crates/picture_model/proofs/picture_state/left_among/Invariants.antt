use Rattle.picture_model.proofs.Common.{Bool, NodeKey, has, left_if, map, take, ◌≡◌}
use Rattle.picture_model.proofs.picture_state.left_among.Given as goal

-- those so far
abbrev pub invariant-loop-node : goal.invariant-loop-node
invariant-loop-node l = (below : NodeKey → Bool) → ((key : NodeKey) → has l.under key ≡ below key) →
    l.later.items ≡ map (left_if l.fault below) (take l.node-index l.nodes.items)
