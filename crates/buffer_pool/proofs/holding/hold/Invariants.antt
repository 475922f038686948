-- Those so far are held, and those that are left lie where first fit puts them.
use Rattle.buffer_pool.proofs.Common.{AreFirstFits, drop, held_from, length, with_buffers, ◌≡◌}
use Rattle.buffer_pool.proofs.holding.hold.Given as goal

abbrev pub invariant-loop-start : goal.invariant-loop-start
invariant-loop-start l = record {
  size : length l.lengths.items ≡ length l.initial.lengths.items;
  fit : AreFirstFits (length l.initial.lengths.items) l.pages (drop l.start-index l.starts) (held_from 0 l.lengths.items);
  held : with_buffers l.pages (drop l.start-index l.starts) (held_from 0 l.lengths.items)
      ≡ with_buffers l.pages l.starts (held_from 0 l.initial.lengths.items);
}
