-- How the core under the lock came to where it is.
use Rattle.std.specs.Prelude.{◌≡◌, ℕ, List, []}
use Rattle.sm_names.specs.Bounds.{Bound}
use Rattle.sm_names.specs.Marks.{Entry}
use Rattle.core_state.specs.Shown.{Shows}
use Rattle.core_state.specs.State.{State, counts_of}
use Rattle.core_state.specs.Theorem.{Leads}

-- the core is this one, but for which readers are still to be taken, their cells, and the order in which the rows of handles stand
pub record IsButTaken (last core : State) : Type 0 where
  pub rest : core ≡ record last { holds = core.holds; trackers = core.trackers }
  pub counts : counts_of core.holds ≡ counts_of last.holds
  pub limit : core.trackers.limit ≡ last.trackers.limit
  pub unfired : core.trackers.unfired ≡ last.trackers.unfired
  pub fired : core.trackers.fired ≡ last.trackers.fired

-- the events of the history, one after another, led from a core that shows no event to one that is this one in that sense
pub record CameBy (history : List Entry) (core : State) : Type 0 where
  pub first : State
  pub blank : Shows first []
  pub last : State
  pub leads : Leads first history last
  pub same : IsButTaken last core

-- a core with this pool and these limits that shows no event came by the events of the history, one after another, to another core
pub record SomeCoreCame (pool : ℕ) (limits : Bound) (history : List Entry) : Type 0 where
  pub first : State
  pub blank : Shows first []
  pub pool_is : first.pool ≡ pool
  pub limits_is : first.limits ≡ limits
  pub last : State
  pub leads : Leads first history last
