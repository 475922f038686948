-- Those so far are gone.
use Rattle.buffer_pool.proofs.Common.{held_from, length, without_run, ◌*◌, ◌+◌, ◌-◌, ◌≡◌, ◌≤◌}
use Rattle.buffer_pool.proofs.holding.let_go.Given as goal

abbrev pub invariant-loop-left : goal.invariant-loop-left
invariant-loop-left l = record {
  few : l.left ≤ l.count;
  size : length l.lengths.items ≡ length l.initial.lengths.items;
  page : l.page ≡ l.start + (l.count - l.left) * l.pages;
  held : held_from 0 l.lengths.items ≡ without_run l.start l.pages (l.count - l.left) (held_from 0 l.initial.lengths.items);
}

abbrev pub decreases-loop-left : goal.decreases-loop-left
decreases-loop-left l = l.left
