-- The names that several proofs of this crate cite, passed on from one place. Declares nothing.
pub use Rattle.std.proofs.Common.{Bool, IfSome, IsOk, IsSome, IsTrue, List, MutBor, None, Option, Some, [], ap, arith, cond, false}
pub use Rattle.std.proofs.Common.{get_or, if◌then◌else◌, is_some, length, nat_lt, not, refl, replicate, set, slice_get, subst, suc}
pub use Rattle.std.proofs.Common.{sum_by, sym, true, unwrap_or, zero, ℕ, ⊎_elim, ◌%◌, ◌&&◌, ◌*◌, ◌+◌, ◌-◌, ◌/◌, ◌<◌, ◌==◌, ◌^◌, ◌||◌, ◌↔◌}
pub use Rattle.std.proofs.Common.{◌∙◌, ◌∷◌, ◌≡◌, ◌≢◌, ◌≤◌}
pub use Rattle.std.proofs.lemmas.Bool.{and_parts, cases_eq, cases_lt, eqb-false, eqb-true, false≢true, le-ltb, lt-ltb, ltb-true}
pub use Rattle.std.proofs.lemmas.Grind.{common_steps}
pub use Rattle.std.proofs.lemmas.List.{get_or-set_other, get_or-set_same}
pub use Rattle.std.proofs.lemmas.List.Sums.{sum_by-cons}
pub use Rattle.std.proofs.lemmas.Map.Made.{lookup_key_passes}
pub use Rattle.std.proofs.lemmas.Nat.Bits.{bit_at-lt, bit_at-trailing_zeros, bit_at-zero, bit_at_above, bit_at_lowest}
pub use Rattle.std.proofs.lemmas.Option.{get_or_from_slice_get, slice_get_within}
pub use Rattle.std.specs.HashMap.{HashMap, IsUnique, Updates, values}
pub use Rattle.std.specs.Int.{bit_at, trailing_ones, trailing_zeros, w64}
pub use Rattle.std.specs.List.{swap_remove}
unfoldable pub use Rattle.std.specs.List.{IsDistinct}
pub use Rattle.std.specs.Map.{keys_of, lookup}
pub use Rattle.std.specs.Option.{option_copied_mut, option_map}
pub use Rattle.buffer_holds.specs.Changes.{AddsSet, Sets, Tidies}
pub use Rattle.buffer_holds.specs.Counts.{Counts, has_handle_room, moving_count, of, share, total}
pub use Rattle.buffer_holds.specs.Gains.{Gains, HasRoomIn}
pub use Rattle.buffer_holds.specs.Kinds.{hold_of, kind_of, same_handle_kind, same_hold}
pub use Rattle.buffer_holds.specs.Pages.{IsBlank, IsIn, IsMasked, RaisesSet, SetsCell, cell_at, count_in, hold_at, in_run, is_in}
unfoldable pub use Rattle.buffer_holds.specs.Pages.{flat}
pub use Rattle.buffer_holds.specs.Pages.{kind_at, masked, owner_of, page_of, page_size, part_of, raised, rows_in, same_owner, same_part}
pub use Rattle.buffer_holds.specs.Pages.{slot_for, slot_of, tidied}
pub use Rattle.buffer_holds.specs.Rows.{Resets, row_at, weight_at}
pub use Rattle.buffer_holds.specs.Sums.{Agrees, AreUpTo, IsAlike, PageBecomes, Pages, SumBecomes, Sums, held, one_page, page_in, sum_in}
pub use Rattle.buffer_holds.specs.Sums.{sum_of}
pub use Rattle.buffer_holds.specs.declared.kinds.HandleKind.{HandleKind}
pub use Rattle.buffer_holds.specs.declared.kinds.Hold.{Hold}
pub use Rattle.buffer_holds.specs.declared.names.Owner.{Owner}
pub use Rattle.buffer_holds.specs.declared.names.Part.{Part}
pub use Rattle.buffer_holds.specs.declared.page.Cells.{Cells}
pub use Rattle.buffer_holds.specs.declared.sums.Sum.{Sum}
pub use Rattle.indexmap.proofs.CallerLemmas.{insert_entry-new}
pub use Rattle.indexmap.specs.IndexMap.{insert_entry, set_value_at}
pub use Rattle.sm_names.proofs.SamenessLaws.{same_strength-refl, same_strength-true}
pub use Rattle.sm_names.specs.Sameness.{same_strength}
pub use Rattle.sm_names.specs.declared.keys.BufferName.{BufferName}
pub use Rattle.sm_names.specs.declared.keys.Strength.{Strength}
pub use Rattle.sm_names.specs.declared.keys.Strength.TheVariants.{Strong, Weak}
