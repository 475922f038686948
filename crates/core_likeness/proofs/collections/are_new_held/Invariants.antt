use Rattle.core_likeness.proofs.Common.{held_renamed, map, new_id, take, ◌≡◌}
use Rattle.core_likeness.proofs.collections.are_new_held.Given as goal

-- so far the buffers are the ones
abbrev pub invariant-loop-at : goal.invariant-loop-at
invariant-loop-at l = take l.at l.other ≡ map (held_renamed (new_id l.names)) (take l.at l.one)
