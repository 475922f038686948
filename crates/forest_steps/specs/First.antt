-- The initial allocation of a collection, and the logical allocations that follow it. No public clause of `alloc_event` cites this module.
use Rattle.std.specs.Prelude.{◌≡◌, ℕ, ◌++◌, max, List, length, Some}
use Rattle.std.specs.List.{sum_by}
use Rattle.sm_names.specs.declared.keys.HeldBuffer.{HeldBuffer}
use Rattle.sm_names.specs.declared.outcomes.Buffers.{Buffers}
use Rattle.sm_names.specs.Demands.{Demand}
use Rattle.sm_names.specs.Members.{greatest}
use Rattle.sm_names.specs.Pages.{places, pages_of}
use Rattle.buffer_pool.specs.Holdings.{Holdings, with_buffers}
use Rattle.forest_store.specs.Scenes.{laid}

-- the buffers that are wanted where this is asked for
abbrev pub wanted_of : List Demand → Buffers
wanted_of asked = record {
  count = max (sum_by (λ (d : Demand). d.camping) asked) (greatest (λ d. d.at_least) asked);
  size = greatest (λ d. d.size) asked;
}

-- this many buffers were placed, and stand before the others
pub record IsLaid (old new : Holdings) (id : ℕ) (wants : Buffers) (others held : List HeldBuffer) : Type 0 where
  pub starts : List ℕ
  pub many : length starts ≡ wants.count
  pub found : places old.size (pages_of wants.size) wants.count old.held ≡ Some starts
  pub lies : held ≡ laid id (pages_of wants.size) 0 starts ++ others
  pub pool : new.held ≡ with_buffers (pages_of wants.size) starts old.held
