-- None is passed that has this many pages.
use Rattle.buffer_pool.proofs.Common.{IsPassed, length, ◌-◌}
use Rattle.buffer_pool.proofs.blocks.Blocks.first.Given as goal

abbrev pub invariant-loop-block : goal.invariant-loop-block
invariant-loop-block l = IsPassed l.pages_each (record { block = l.block; before = l.before }) l.self-inside.used.items

abbrev pub decreases-loop-block : goal.decreases-loop-block
decreases-loop-block l = length l.self-inside.used.items - l.block
