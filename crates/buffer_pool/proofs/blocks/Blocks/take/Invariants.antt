-- The buffers so far are placed, and before the block none has room.
use Rattle.buffer_pool.proofs.Common.{AreBlocks, MAX_PAGES, all_in, length, looks_in, starts_in, vec_capacity, ◌*◌, ◌++◌, ◌+◌, ◌-◌, ◌≡◌}
use Rattle.buffer_pool.proofs.Common.{◌≤◌}
use Rattle.buffer_pool.proofs.Filling.{IsFilling}
use Rattle.buffer_pool.proofs.blocks.Blocks.take.Given as goal

abbrev pub invariant-loop-count : goal.invariant-loop-count
invariant-loop-count l = record {
  filling : IsFilling l.pages_each l.most l.count l.fn.self.lists l.fn.from (record { block = l.block; before = l.before })
      l.self-inside.used.items;
  starts : l.starts.items ≡ l.initial.starts.items ++ starts_in l.pages_each l.count (all_in l.fn.self.lists);
  looks : l.looks ≡ looks_in l.pages_each l.count (all_in l.fn.self.lists);
  looks_fit : l.looks ≤ l.count * MAX_PAGES;
  starts_room : length l.starts.items + (l.most - l.count) ≤ vec_capacity l.starts;
  count : length l.self-inside.used.items + length l.self-inside.spare.items ≡ length l.fn.self.lists + l.fn.self.spares;
  sound : AreBlocks l.self-inside.used.items l.self-inside.spare.items (vec_capacity l.self-inside.used) (vec_capacity l.self-inside.spare);
}

abbrev pub decreases-loop-count : goal.decreases-loop-count
decreases-loop-count l = length l.self-inside.used.items - l.block
