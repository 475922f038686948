-- The rest of the count after all is the rest of the present count after those that remain.
use Rattle.buffer_pool.proofs.Common.{drop, rooms, ◌-◌, ◌≡◌}
use Rattle.buffer_pool.proofs.block.left_over_in.Given as goal

abbrev pub invariant-loop-at : goal.invariant-loop-at
invariant-loop-at l = l.left - rooms l.pages_each (drop l.at l.holes) ≡ l.count - rooms l.pages_each l.holes
