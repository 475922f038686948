-- Buffers that give their pages back together.
use Rattle.std.specs.Prelude.{List}
use Rattle.sm_names.specs.declared.keys.Interval.{Interval}
use Rattle.buffer_pool.specs.Holdings.{HasRun, without_run}
use Rattle.forest_steps.specs.declared.page_ranges.PageRange.{PageRange}

-- each interval of the run is held
abbrev pub HoldsRun : PageRange → List Interval → Type 0
HoldsRun run held = HasRun run.start run.pages run.count held

-- what is held beside them
abbrev pub rest_of : PageRange → List Interval → List Interval
rest_of run held = without_run run.start run.pages run.count held
