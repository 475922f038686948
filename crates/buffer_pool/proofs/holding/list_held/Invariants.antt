-- Those so far and those still to come make the whole.
use Rattle.buffer_pool.proofs.Common.{drop, held_from, vec_capacity, ◌++◌, ◌+◌, ◌≡◌, ◌≤◌}
use Rattle.buffer_pool.proofs.holding.list_held.Given as goal

abbrev pub invariant-loop-pages : goal.invariant-loop-pages
invariant-loop-pages l = record {
  start : l.start ≡ l.pages-index;
  held : l.held.items ++ held_from l.pages-index (drop l.pages-index l.lengths) ≡ held_from 0 l.lengths;
  room : l.count ≤ vec_capacity l.held;
}
