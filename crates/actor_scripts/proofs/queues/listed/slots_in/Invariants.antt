use Rattle.actor_scripts.proofs.Common.{take, ◌≡◌}
use Rattle.actor_scripts.proofs.queues.listed.slots_in.Given as goal

-- so far the first ones
abbrev pub invariant-loop-at : goal.invariant-loop-at
invariant-loop-at l = l.slots.items ≡ take l.at l.queue.items
