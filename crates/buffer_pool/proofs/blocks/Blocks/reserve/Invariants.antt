-- The blocks become more.
use Rattle.buffer_pool.proofs.Common.{length, ◌+◌, ◌-◌, ◌≡◌, ◌≤◌}
use Rattle.buffer_pool.proofs.blocks.Blocks.reserve.Given as goal

abbrev pub invariant-loop-self : goal.invariant-loop-self
invariant-loop-self l = (l.self.lists ≡ l.fn.self.lists) × (l.fn.self.spares ≤ l.self.spares)

abbrev pub decreases-loop-self : goal.decreases-loop-self
decreases-loop-self l = l.blocks - (length l.self.lists + l.self.spares)
