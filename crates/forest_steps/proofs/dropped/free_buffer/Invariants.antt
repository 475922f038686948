use Rattle.forest_steps.proofs.Common.{◌≡◌, ◌≤◌, ◌++◌, false, true, List, length, take, filter}
use Rattle.forest_steps.proofs.Common.{Interval, total, are_rest_out, by_page, is_out, pages_held, ◌-◌}
use Rattle.buffer_pool.specs.Holdings.{IsSound}
use Rattle.forest_steps.proofs.dropped.free_buffer.Given as goal

-- those before the place stay, those that are to stay are the same, and the others that went gave their pages back
abbrev pub invariant-loop-at : goal.invariant-loop-at
invariant-loop-at l = record {
  within : l.at ≤ length l.held.items;
  sound : IsSound l.pool;
  size : l.pool.size ≡ l.initial.pool.size;
  pages : (others : List Interval) → l.initial.pool.held ≡ by_page (pages_held l.initial.held.items ++ others) →
      l.pool.held ≡ by_page (pages_held l.held.items ++ others);
  front : filter (is_out (total l.holds) false) (take l.at l.held.items) ≡ take l.at l.held.items;
  same : filter (is_out (total l.holds) false) l.held.items ≡ filter (is_out (total l.holds) false) l.initial.held.items;
  rest : are_rest_out (total l.holds) l.buffer false l.held.items ≡ true;
}

abbrev pub decreases-loop-at : goal.decreases-loop-at
decreases-loop-at l = length l.held.items - l.at
