-- The pairs so far have too many intervals to be made one.
use Rattle.buffer_pool.proofs.Common.{FULL, [], all_in, get_or, length, take, ◌*◌, ◌+◌, ◌-◌, ◌≤◌}
use Rattle.buffer_pool.proofs.blocks.short_pair.Given as goal

abbrev pub invariant-loop-at : goal.invariant-loop-at
invariant-loop-at l = (l.at ≤ length l.blocks)
    × (l.at * FULL + length (get_or l.blocks l.at []) ≤ 2 * length (all_in (take (l.at + 1) l.blocks)))

abbrev pub decreases-loop-at : goal.decreases-loop-at
decreases-loop-at l = length l.blocks - l.at
