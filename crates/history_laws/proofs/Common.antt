-- The names that several proofs of this crate cite, passed on from one place. Declares nothing.
pub use Rattle.std.proofs.Common.{Bool, List, None, Option, Some, [], ap, arith, cond, drop, false, inl, inr, is_none, is_some, length}
pub use Rattle.std.proofs.Common.{map, nat_le, nat_lt, not, refl, reverse, subst, suc, sym, true, zero, ℕ, ◌&&◌, ◌*◌, ◌++◌, ◌+◌, ◌-◌, ◌<◌}
pub use Rattle.std.proofs.Common.{◌==◌, ◌||◌, ◌∙◌, ◌∷◌, ◌≡◌, ◌≤◌, ◌⊎◌}
pub use Rattle.std.proofs.Math.Bool.{and-false}
pub use Rattle.std.proofs.lemmas.Bool.{eq-eqb, eqb-true, false≢true, ltb-false, ltb-true, not-false, not-true}
pub use Rattle.std.proofs.lemmas.List.{reverse-append}
pub use Rattle.std.proofs.lemmas.List.Sums.{fold-append, sum_by-cons}
pub use Rattle.std.proofs.lemmas.Nat.Bits.{bit_at-zero}
pub use Rattle.std.specs.Int.{bit_at}
pub use Rattle.std.specs.List.{cons_option, count_by, filter, filter_map, find, fold, list_all, list_any, range_with_len, sum_by}
pub use Rattle.std.specs.Option.{IfSome, option_and_then, option_map, option_map_or, unwrap_or}
pub use Rattle.sm_names.proofs.ChainLaws.{IsChain, top_on}
pub use Rattle.sm_names.proofs.ListLaws.{In, In-any, In-append, In-filter, In-filter-back, In-find, In-list_any, In-map, In-map-back}
pub use Rattle.sm_names.proofs.ListLaws.{In-reverse, In-reverse-back, filter-none, is_some-find, map-In, times-append, when-Some}
pub use Rattle.sm_names.proofs.SamenessLaws.{and_both, and_left, and_then-Some, both_ways, either_way, false_if, map-Some, none_if}
pub use Rattle.sm_names.proofs.SamenessLaws.{none_or_some, or_both, or_left, or_none_right, or_parts, or_right, same_buffer-true}
pub use Rattle.sm_names.proofs.SamenessLaws.{same_key-refl, same_key-true, same_strength-true}
pub use Rattle.sm_names.specs.Answers.{IsAnswer, OpenEnd, Readings, answer, answers_first, closing, collected, effect, end_in_transit}
pub use Rattle.sm_names.specs.Answers.{end_named, limits_met, misuse, misuse_of, no_end, no_handle, peer_closed, refused_if, set_of}
pub use Rattle.sm_names.specs.Answers.{shut_client, unknown_client, wrong_kind}
pub use Rattle.sm_names.specs.Apart.{AreApart, are_in, at_pages}
pub use Rattle.sm_names.specs.Births.{AreSound, AreTogether, Birth, ancestors, birth_at, birth_of, births, collection_in, head}
pub use Rattle.sm_names.specs.Births.{is_at_or_below, was_born}
pub use Rattle.sm_names.specs.Bounds.{Bound}
pub use Rattle.sm_names.specs.Changes.{after_allocation, after_end, after_loss}
pub use Rattle.sm_names.specs.Ends.{collects, given_at, parcels, spends, spent}
pub use Rattle.sm_names.specs.Forced.{Standing, abandoned, ending, forced, initial_allocation, initial_failure, is_allocated, is_deserted}
pub use Rattle.sm_names.specs.Forced.{is_next_head, logical_allocation, logical_failure, outcome}
pub use Rattle.sm_names.specs.Handles.{buffer_names, buffers_of, doomed, drops, home, is_initial, lands, lifts, names, open_of}
pub use Rattle.sm_names.specs.Handles.{open_total, opens}
pub use Rattle.sm_names.specs.Isolation.{IsAsBefore}
pub use Rattle.sm_names.specs.Legality.{AreAnswers, IsLegal}
pub use Rattle.sm_names.specs.Losses.{Down, Origin, Reach, Up, allocated, blocked, fault, gone, is_allocation, is_release, live}
pub use Rattle.sm_names.specs.Losses.{parent_of, reaches, released, takes, top}
pub use Rattle.sm_names.specs.Marks.{Allocated, Called, Ended, Entry, Loss, Mark, Timeline, events, is_event}
pub use Rattle.sm_names.specs.Members.{Member, asked, births_in, demands, is_live, is_ready, is_root, is_under, member, members, reserved}
pub use Rattle.sm_names.specs.Members.{root_left, some_live, some_strong_live, subtree, unit}
pub use Rattle.sm_names.specs.Pages.{has_room, least_start, meets, pages_of, places}
pub use Rattle.sm_names.specs.Reading.{open_end, readings}
pub use Rattle.sm_names.specs.Sameness.{same_buffer, same_key, same_strength}
pub use Rattle.sm_names.specs.Timelines.{after, collection_of, held, key_of, laid_out, layout_at, next_forced, own_loss, placed, settled}
pub use Rattle.sm_names.specs.Timelines.{settled_within, standing, still_out, timeline}
pub use Rattle.sm_names.specs.Trackers.{Tracked, earlier_moments, fired, fired_at, fires_at, holds, moments, tracked, unfired, world}
pub use Rattle.sm_names.specs.Views.{live_nodes}
pub use Rattle.sm_names.specs.Weakness.{born_to, sets_weak, weak}
pub use Rattle.sm_names.specs.Words.{first_some, last_match, times, when}
pub use Rattle.sm_names.specs.declared.keys.BufferName.{BufferName}
pub use Rattle.sm_names.specs.declared.keys.HeldBuffer.{HeldBuffer}
pub use Rattle.sm_names.specs.declared.keys.Interval.{Interval}
pub use Rattle.sm_names.specs.declared.keys.NodeKey.{NodeKey}
pub use Rattle.sm_names.specs.declared.keys.Strength.{Strength}
pub use Rattle.sm_names.specs.declared.messages.Call.{Call}
pub use Rattle.sm_names.specs.declared.messages.Parcel.{Parcel}
pub use Rattle.sm_names.specs.declared.messages.Reply.{Reply}
pub use Rattle.sm_names.specs.declared.outcomes.Buffers.{Buffers}
pub use Rattle.sm_names.specs.declared.outcomes.Cause.{Cause}
pub use Rattle.sm_names.specs.declared.outcomes.Failure.{Failure}
pub use Rattle.sm_names.specs.declared.outcomes.Fault.{Fault}
pub use Rattle.sm_names.specs.declared.outcomes.Misuse.{Misuse}
pub use Rattle.sm_names.specs.declared.outcomes.Refusal.{Refusal}
