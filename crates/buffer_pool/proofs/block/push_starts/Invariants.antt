-- Those so far and those still to come make the whole.
use Rattle.buffer_pool.proofs.Common.{length, run_starts, vec_capacity, ◌*◌, ◌++◌, ◌+◌, ◌≡◌, ◌≤◌}
use Rattle.buffer_pool.proofs.block.push_starts.Given as goal

abbrev pub invariant-loop-left : goal.invariant-loop-left
invariant-loop-left l = record {
  items : l.starts.items ++ run_starts l.next l.pages l.left
      ≡ l.initial.starts.items ++ run_starts l.start l.pages l.count;
  ends : l.next + l.left * l.pages ≡ l.start + l.count * l.pages;
  room : length l.starts.items + l.left ≤ vec_capacity l.starts;
  capacity : vec_capacity l.starts ≡ vec_capacity l.initial.starts;
}

abbrev pub decreases-loop-left : goal.decreases-loop-left
decreases-loop-left l = l.left
