-- The names that several proofs of this crate cite, passed on from one place. Declares nothing.
pub use Rattle.std.proofs.Common.{Bool, List, None, Some, [], add-one, ap, append_assoc, arith, drop, false, get_or, inl, inr, length}
pub use Rattle.std.proofs.Common.{length-drop, min, nat_le, nat_lt, not, refl, rules, set, subst, suc, sym, take, true, vec_capacity}
pub use Rattle.std.proofs.Common.{zero, ℕ, ◌*◌, ◌++◌, ◌+◌, ◌-◌, ◌/◌, ◌<◌, ◌==◌, ◌^◌, ◌∙◌, ◌∷◌, ◌≡◌, ◌≤◌}
pub use Rattle.std.proofs.Math.Nat.{add-mul, div-eq-sub-div, div-eq_of_lt, mul-add, mul-le-mul_left, mul-le-mul_right, mul_comm, suc-mul}
pub use Rattle.std.proofs.lemmas.Bool.{and_from, and_parts, both_ways, cases_Bool, cases_lt, eq-eqb, eqb-true, le-leb, le-ltb, leb-false}
pub use Rattle.std.proofs.lemmas.Bool.{leb-true, lt-leb, lt-ltb, ltb-false, ltb-true, ne_eqb}
pub use Rattle.std.proofs.lemmas.Grind.{common_steps}
pub use Rattle.std.proofs.lemmas.List.{append-nil, drop-set-lt, drop_all, drop_at, drop_more, get_or-set_same, get_or_default}
pub use Rattle.std.proofs.lemmas.List.{get_or_read, length-append, length-set, length-take-le, nil_from_length, set_split}
pub use Rattle.std.proofs.lemmas.List.{take-append-drop, take-append-le, take-set, take-set-le, take-take, take_more, take_more_set}
pub use Rattle.std.proofs.lemmas.List.Edits.{length-insert, length-remove}
pub use Rattle.std.proofs.lemmas.List.Elements.{All-drop, All-set, All-take}
pub use Rattle.std.proofs.lemmas.List.Sums.{prefix_len-le-length, prefix_len_is, sum_by-cons}
pub use Rattle.std.specs.List.{insert, list_any, prefix_len, remove}
pub use Rattle.std.specs.List.Sorted.{IsNonDecreasingBy}
pub use Rattle.std.specs.Prelude.{All, Contains}
pub use Rattle.buffer_pool.specs.Fitting.{AreFirstFits, first_fit, holes_after, looks_in, rooms, run_starts, shortened, starts_in, taken}
pub use Rattle.buffer_pool.specs.Fitting.{too_small}
pub use Rattle.buffer_pool.specs.Holdings.{AreGaps, HasRun, IsPoolSound, in_order, in_run, total_pages, with_buffers, with_interval}
pub use Rattle.buffer_pool.specs.Holdings.{without, without_run}
pub use Rattle.buffer_pool.specs.Holes.{end_of, gap, holes_from, holes_of}
pub use Rattle.buffer_pool.specs.Lengths.{held_from}
pub use Rattle.buffer_pool.specs.Looks.{looks_for}
pub use Rattle.buffer_pool.specs.Merging.{first_begins, first_ends, spaced, with_merged, with_released}
pub use Rattle.buffer_pool.specs.Rows.{AreBlocks, HasIntervalAt, IsPassed, IsSane, all_in, spot_index}
pub use Rattle.buffer_pool.specs.declared.block.TheConstants.{FULL, HALF}
pub use Rattle.buffer_pool.specs.declared.blocks.Reach.{Reach}
pub use Rattle.sm_names.specs.Apart.{at_pages}
pub use Rattle.sm_names.specs.Pages.{has_room, meets, places}
pub use Rattle.sm_names.specs.declared.keys.Interval.{Interval}
pub use Rattle.sm_names.specs.declared.rules.TheConstants.{MAX_PAGES}
