-- The names that several proofs of this crate cite, passed on from one place. Declares nothing.
pub use Rattle.std.proofs.Common.{Bool, IsSomeAnd, List, None, Option, Some, [], ap, append-nil, arith, cond, count_by, drop, false}
pub use Rattle.std.proofs.Common.{get_or, if◌then◌else◌, length, length-append, map, nat_lt, not, refl, rules, set, subst, suc, sym, take}
pub use Rattle.std.proofs.Common.{true, vec_capacity, zero, ℕ, ◌++◌, ◌+◌, ◌-◌, ◌<◌, ◌==◌, ◌∙◌, ◌∷◌, ◌≡◌, ◌≢◌, ◌≤◌}
pub use Rattle.std.proofs.lemmas.Bool.{eqb-true}
pub use Rattle.std.proofs.lemmas.Bool.Decides.{nat_tests}
pub use Rattle.std.proofs.lemmas.Fn.{filter_same}
pub use Rattle.std.proofs.lemmas.Grind.{common_steps}
pub use Rattle.std.proofs.lemmas.List.{drop_more, get_or_default, length-map, length_push, map_push}
pub use Rattle.std.proofs.lemmas.List.Elements.{All-from_recursion, filter-append, recursion_from_All}
pub use Rattle.std.proofs.lemmas.List.Sums.{sum_by-append, sum_by-cons}
pub use Rattle.std.specs.Bool.{OnTrue}
pub use Rattle.std.specs.List.{AllByRecursion, cons_option, filter, filter_map}
pub use Rattle.sm_names.specs.Trackers.{World, holds}
pub use Rattle.sm_names.specs.declared.tracking.Fired.{Fired}
pub use Rattle.trackers.specs.Held.{AreHeld, Found, IdsRise, NoneHas, TableInvariant, cell_of_row, due_id, fires, here, is_met, later}
pub use Rattle.trackers.specs.Held.{row_after, table_of, untaken_of_row}
pub use Rattle.trackers.specs.Places.{IsKept, IsKeptAt, RowsInvariant, Slots, firing_or_none, row_as, row_at, row_in, row_over, rows_of}
pub use Rattle.trackers.specs.Places.{slot_at}
pub use Rattle.trackers.specs.Row.{Over, RowState, TrackerRow, WaitingRow, Waits, firing_of_row, is_waiting, waiting_of_row}
pub use Rattle.trackers.specs.Table.{Attaches, Cell, TrackerTable, firing_of, is_due, still_waiting}
pub use Rattle.trackers.specs.WaitIndex.{IsIndexed, WaitIndex, ids_of, is_waiter_due, trackers_in, waiters_of}
pub use Rattle.trackers.specs.declared.index.Waiter.{Waiter}
pub use Rattle.trackers.specs.declared.place.Place.{Place}
pub use Rattle.trackers.specs.declared.place.Stage.{Stage}
pub use Rattle.trackers.specs.declared.place.Stage.TheVariants.{InSlot, Taken, Untaken}
pub use Rattle.trackers.specs.declared.waiting.Waiting.{Waiting}
