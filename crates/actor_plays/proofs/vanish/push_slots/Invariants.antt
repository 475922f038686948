use Rattle.actor_plays.proofs.Common.{flat_map, take, ◌++◌, ◌≡◌}
use Rattle.actor_plays.specs.Leaves.{there}
use Rattle.actor_plays.proofs.vanish.push_slots.Given as goal

-- so far those in these slots
abbrev pub invariant-loop-slot : goal.invariant-loop-slot
invariant-loop-slot l = l.all.items ≡ l.fn.all.items ++ flat_map (there l.sort) (take l.slot-index l.slots)
