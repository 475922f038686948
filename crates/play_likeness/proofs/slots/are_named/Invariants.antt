use Rattle.play_likeness.proofs.Common.{In, NodeKey, new_key, take, ◌≡◌}
use Rattle.play_likeness.proofs.slots.are_named.Given as goal

-- so far each is a new name
abbrev pub invariant-loop-other : goal.invariant-loop-other
invariant-loop-other l = (new : NodeKey) → In new (take l.other-index l.others) →
    (key : NodeKey) × In key l.keys × (new_key l.names key ≡ new)
