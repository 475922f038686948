-- Those that stay lie before those that are left.
use Rattle.buffer_pool.proofs.Common.{FULL, MAX_PAGES, length, looks_in, starts_in, vec_capacity, ◌*◌, ◌++◌, ◌+◌, ◌-◌, ◌≡◌, ◌≤◌}
use Rattle.buffer_pool.proofs.Taking.{IsWalked}
use Rattle.buffer_pool.proofs.block.Block.take.Given as goal

abbrev pub invariant-loop-count : goal.invariant-loop-count
invariant-loop-count l = record {
  walk : IsWalked l.pages_each l.most l.count l.fn.self l.self-inside.cells.items l.kept l.at l.self-inside.greatest;
  starts : l.starts.items ≡ l.initial.starts.items ++ starts_in l.pages_each l.count l.fn.self;
  looks : l.looks ≡ l.count * l.before + looks_in l.pages_each l.count l.fn.self;
  looks_fit : l.looks ≤ l.count * MAX_PAGES;
  starts_room : length l.starts.items + (l.most - l.count) ≤ vec_capacity l.starts;
  capacity : vec_capacity l.starts ≡ vec_capacity l.initial.starts;
  has_room : FULL ≤ vec_capacity l.self-inside.cells;
}

abbrev pub decreases-loop-count : goal.decreases-loop-count
decreases-loop-count l = length l.self-inside.cells.items - l.at
