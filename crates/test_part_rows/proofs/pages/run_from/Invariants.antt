-- This many are held so far that lie side by side.
use Rattle.std.proofs.Common.{◌≤◌}
use Rattle.buffer_pool.specs.Holdings.{HasRun}
use Rattle.test_part_rows.proofs.pages.run_from.Given as goal

abbrev pub invariant-loop-next : goal.invariant-loop-next
invariant-loop-next l = record {
  few : l.count ≤ 1048576;
  run : HasRun l.start l.pages l.count l.held;
}
