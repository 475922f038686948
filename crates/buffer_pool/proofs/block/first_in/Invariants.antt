-- Those that are passed have no room.
use Rattle.buffer_pool.proofs.Common.{length, rooms, take, ◌-◌, ◌≡◌, ◌≤◌}
use Rattle.buffer_pool.proofs.block.first_in.Given as goal

abbrev pub invariant-loop-at : goal.invariant-loop-at
invariant-loop-at l = (l.at ≤ length l.holes) × (rooms l.pages_each (take l.at l.holes) ≡ 0)

abbrev pub decreases-loop-at : goal.decreases-loop-at
decreases-loop-at l = length l.holes - l.at
