-- What a core is opened with.
use Rattle.std.specs.Prelude.{ℕ, ◌≤◌, ◌≡◌, []}
use Rattle.sm_names.specs.declared.rules.TheConstants.{MAX_PAGES}
use Rattle.sm_names.specs.Bounds.{IsBound}
use Rattle.core_state.specs.Shown.{Shows}
use Rattle.core_state.specs.State.{State}

-- the numbers that a core may be opened with
pub record IsInRange (pages events nodes collections trackers handles : ℕ) : Type 0 where
  pub pages_in_range : (1 ≤ pages) × (pages ≤ MAX_PAGES)
  pub limits_in_range : IsBound events nodes collections trackers handles

-- a core with this pool and these limits, which shows the empty history
pub record IsNew (pages events nodes collections trackers handles : ℕ) (core : State) : Type 0 where
  pub shows : Shows core []
  pub pool : core.pool ≡ pages
  pub limits : core.limits ≡ record { events = events; nodes = nodes; collections = collections; trackers = trackers; handles = handles }
