use Rattle.forest_steps.proofs.Common.{◌≡◌, ◌≤◌, ◌++◌, List, length, take, drop, filter}
use Rattle.forest_steps.proofs.Common.{Interval, total, by_page, is_out, pages_held, rest_of}
use Rattle.buffer_pool.specs.Holdings.{IsSound}
use Rattle.forest_steps.specs.Runs.{HoldsRun}
use Rattle.forest_steps.proofs.returns.return_pages.Given as goal

-- those so far that are home gave their pages back, but for those of the run, which are to
abbrev pub invariant-loop-buffer : goal.invariant-loop-buffer
invariant-loop-buffer l = record {
  sound : IsSound l.pool;
  size : l.pool.size ≡ l.initial.pool.size;
  run : HoldsRun l.run l.pool.held;
  held : (others : List Interval) → l.initial.pool.held ≡ by_page (pages_held l.held ++ others) →
      rest_of l.run l.pool.held ≡ by_page (pages_held
      (filter (is_out (total l.holds) l.strong_live) (take l.buffer-index l.held) ++ drop l.buffer-index l.held)
      ++ others);
  out : l.out ≡ length (filter (is_out (total l.holds) l.strong_live) (take l.buffer-index l.held));
  few : l.out ≤ l.buffer-index;
}
