-- The views of a history.
use Rattle.std.specs.Prelude.{ℕ, ◌-◌, List, map, reverse}
use Rattle.std.specs.List.{filter, sum_by}
use Rattle.sm_names.specs.declared.keys.NodeKey.{NodeKey}
use Rattle.sm_names.specs.declared.tracking.Fired.{Fired}
use Rattle.sm_names.specs.Births.{Birth, births}
use Rattle.sm_names.specs.Losses.{live}
use Rattle.sm_names.specs.Marks.{Timeline}
use Rattle.sm_names.specs.declared.keys.HeldBuffer.{HeldBuffer}
use Rattle.sm_names.specs.Timelines.{held}
use Rattle.sm_names.specs.Trackers.{fired}
use Rattle.sm_names.specs.Words.{sorted_by}

-- the live nodes, by birth
abbrev pub live_nodes : Timeline → List NodeKey
live_nodes marks =
    map (λ (b : Birth). b.node) (filter (λ (b : Birth). live marks b.node) (reverse (births marks)))

-- the held buffers, by page
abbrev pub held_by_page : ℕ → Timeline → List HeldBuffer
held_by_page pool marks = sorted_by (λ h. h.pages.start) (held pool marks)

-- the pages of the pool that no buffer holds
abbrev pub free_pages : ℕ → Timeline → ℕ
free_pages pool marks = pool - sum_by (λ (h : HeldBuffer). h.pages.pages) (held pool marks)

-- all that is seen
pub record Views : Type 0 where
  pub live : List NodeKey
  pub held : List HeldBuffer
  pub fired : List Fired
  pub free : ℕ

-- what is seen after these marks
abbrev pub views : ℕ → Timeline → Views
views pool marks = record {
  live = live_nodes marks;
  held = held_by_page pool marks;
  fired = fired marks;
  free = free_pages pool marks;
}
