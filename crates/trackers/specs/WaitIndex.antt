-- The index of the trackers that wait, by collection. No public clause cites this module.
use Rattle.std.specs.Prelude.{◌≡◌, ℕ, Bool, nat_eq, ◌==◌, List, [], map, Vec}
use Rattle.std.specs.List.{filter}
use Rattle.std.specs.Option.{option_map_or}
use Rattle.std.specs.HashMap.{get, HashMap}
use Rattle.std.specs.declared.hash.FoldHasher.{FoldHasher}
use Rattle.std.specs.declared.hash.BuildHasherDefault.{BuildHasherDefault}
use Rattle.std.specs.declared.alloc.Global.{Global}
use Rattle.sm_names.specs.Trackers.{World}
use Rattle.trackers.specs.declared.index.Waiter.{Waiter}
use Rattle.trackers.specs.declared.waiting.Waiting.{Waiting}
use Rattle.trackers.specs.Table.{is_due}

-- lists, by collection
abbrev pub WaitIndex : Type 0
WaitIndex = HashMap ℕ (Vec Waiter Global) (BuildHasherDefault FoldHasher)

-- what waits under the collection
abbrev pub waiters_of : WaitIndex → ℕ → List Waiter
waiters_of index collection = option_map_or (λ (list : Vec Waiter Global). list.items) (get nat_eq index collection) []

-- what it waits for holds
abbrev pub is_waiter_due : World → Waiter → Bool
is_waiter_due world waiter = is_due world waiter.tracker

-- the trackers
abbrev pub trackers_in : List Waiter → List Waiting
trackers_in waiters = map (λ (waiter : Waiter). waiter.tracker) waiters

-- their ids
abbrev pub ids_of : List Waiter → List ℕ
ids_of waiters = map (λ (waiter : Waiter). waiter.tracker.id) waiters

-- the tracker waits under the collection
abbrev pub is_under : ℕ → Waiting → Bool
is_under collection t = collection == t.collection

-- the index has under each collection those of these that wait there, in their order
pub record IsIndexed (unfired : List Waiting) (index : WaitIndex) : Type 0 where
  pub at : (collection : ℕ) → trackers_in (waiters_of index collection) ≡ filter (is_under collection) unfired
