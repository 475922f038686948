use Rattle.actor_scripts.proofs.Common.{keys_of, ◌++◌, ◌≡◌}
use Rattle.actor_scripts.proofs.queues.Queues.buffers.Given as goal

-- those so far and those to come are all
abbrev pub invariant-loop-buffer : goal.invariant-loop-buffer
invariant-loop-buffer l = l.buffers.items ++ l.buffer-iterator ≡ keys_of l.self.slots.entries
