-- The names that several proofs of this crate cite, passed on from one place. Declares nothing.
pub use Rattle.std.proofs.Common.{Bool, List, None, Option, Some, [], ap, append_assoc, arith, cond, drop, false, get_or, inl, inr}
pub use Rattle.std.proofs.Common.{is_none, is_some, length, map, nat_le, not, refl, reverse, subst, suc, sym, true, zero, ℕ, ◌&&◌, ◌++◌}
pub use Rattle.std.proofs.Common.{◌+◌, ◌-◌, ◌<◌, ◌==◌, ◌||◌, ◌∙◌, ◌∷◌, ◌≡◌, ◌≤◌}
pub use Rattle.std.proofs.lemmas.Bool.{eq-eqb, eqb-true, false≢true, ltb-false, ltb-true}
pub use Rattle.std.proofs.lemmas.Grind.{common_steps}
pub use Rattle.std.proofs.lemmas.List.{get_or_read, reverse-append}
pub use Rattle.std.proofs.lemmas.List.Elements.{All-cons, All-nil}
pub use Rattle.std.proofs.lemmas.List.Sums.{length-filter, sum_by-append, sum_by-cons}
pub use Rattle.std.specs.Int.{bit_at}
pub use Rattle.std.specs.List.{All, cons_option, filter, fold, list_any, range_with_len, sum_by}
pub use Rattle.std.specs.Option.{option_map, option_map_or}
pub use Rattle.event_laws.specs.ByEvent.{GoesBy, SameHands, anyone, collected_at, delivers, entry_mark, is_about_handles, loses, one_if}
pub use Rattle.event_laws.specs.ByEvent.{only, sends}
pub use Rattle.event_laws.specs.HandleSums.{ListsAllocated, allocated_collections, dropped_at, got_at, indices_below, opened_at}
pub use Rattle.event_laws.specs.HandleSums.{over_buffers, sent_at}
unfoldable pub use Rattle.event_laws.specs.HandleSums.{all_open_of, indices_in}
pub use Rattle.event_laws.specs.Lines.{client_line, gained_by, lines_of, losses, lost_by}
pub use Rattle.event_laws.specs.Links.{Links, Stands, rest_at}
pub use Rattle.event_laws.specs.Members.{Marks, is_among, joined, joined_from, makes_client}
pub use Rattle.event_laws.specs.Parts.{is_own, own_entry, part, part_from}
pub use Rattle.event_laws.specs.Waiting.{IsWaitedFor, is_tracked_met, tracked_firing, tracker_made, trackers_to_test, unfired_trackers}
pub use Rattle.event_laws.specs.declared.amounts.TheConstants.{SET_BITS}
pub use Rattle.event_laws.specs.declared.own.Own.{Own}
pub use Rattle.history_laws.proofs.AnswerLaws.{took_effect_all}
pub use Rattle.history_laws.proofs.BirthLaws.{Named, birth_was_born, comes, named}
pub use Rattle.history_laws.proofs.CountLaws.{client-le-total, drops-le-opens, lands-le-lifts}
pub use Rattle.history_laws.proofs.GoneLaws.{earlier_after}
pub use Rattle.history_laws.proofs.GrowthLaws.{Allocates, Answers, Ends, Grows, Loses, Stays, kept-grown, legal_grows, legal_grows_on}
pub use Rattle.history_laws.proofs.HistoryLaws.{AreAnswers-last, timeline-push}
pub use Rattle.history_laws.proofs.KeptLaws.{kept-after}
pub use Rattle.history_laws.proofs.LifeLaws.{In_new, In_old, ordered}
pub use Rattle.history_laws.proofs.ParcelLaws.{IsDrawn}
pub use Rattle.history_laws.proofs.ReachLaws.{other_key}
pub use Rattle.history_laws.proofs.SettledLaws.{forced_why}
pub use Rattle.history_laws.proofs.SumLaws.{any_one, one, sum_by-add, sum_by-same, sum_by-zero, sum_once, times-cons}
pub use Rattle.history_laws.proofs.TakeLaws.{none_key}
pub use Rattle.sm_names.proofs.ListLaws.{In, In-any, In-append, In-list_any, In-reverse}
pub use Rattle.sm_names.proofs.SamenessLaws.{and_both, and_left, and_right, both_ways, either_way, false_if, map-Some, or_both, or_right}
pub use Rattle.sm_names.proofs.SamenessLaws.{same_buffer-true, same_key-refl, same_key-true, same_strength-true}
pub use Rattle.sm_names.specs.Answers.{IsAnswer, refused_if}
pub use Rattle.sm_names.specs.Births.{Birth, birth_at, birth_of, births, collection_in, was_born}
pub use Rattle.sm_names.specs.Bounds.{Bound}
pub use Rattle.sm_names.specs.Ends.{binds, clients, collector, collector_at, given_at, has_joined, holder, in_transit, is_end_of}
pub use Rattle.sm_names.specs.Ends.{joined_at, parcels, spends, spent}
pub use Rattle.sm_names.specs.Handles.{buffer_names, buffers_of, drops, lands, lifts, moving, names, open_of, open_total, opens}
pub use Rattle.sm_names.specs.Isolation.{IsOf, collection_at}
pub use Rattle.sm_names.specs.Legality.{IsLegal}
pub use Rattle.sm_names.specs.Losses.{allocated, gone}
pub use Rattle.sm_names.specs.Marks.{Allocated, Called, Ended, Entry, Loss, Mark, Timeline, events, is_event}
pub use Rattle.sm_names.specs.Reading.{readings}
pub use Rattle.sm_names.specs.Sameness.{same_buffer, same_key, same_strength}
pub use Rattle.sm_names.specs.Timelines.{after, timeline}
pub use Rattle.sm_names.specs.Trackers.{Tracked, collection_of_node, earlier_moments, fired, fired_at, holds, moments, tracked}
pub use Rattle.sm_names.specs.Trackers.{tracked_at, world}
pub use Rattle.sm_names.specs.Words.{first_some, last_match, times}
pub use Rattle.sm_names.specs.declared.keys.BufferName.{BufferName}
pub use Rattle.sm_names.specs.declared.keys.NodeKey.{NodeKey}
pub use Rattle.sm_names.specs.declared.keys.Strength.{Strength}
pub use Rattle.sm_names.specs.declared.keys.Strength.TheVariants.{Strong, Weak}
pub use Rattle.sm_names.specs.declared.messages.Call.{Call}
pub use Rattle.sm_names.specs.declared.messages.Parcel.{Parcel}
pub use Rattle.sm_names.specs.declared.messages.Reply.{Reply}
pub use Rattle.sm_names.specs.declared.outcomes.Buffers.{Buffers}
pub use Rattle.sm_names.specs.declared.outcomes.Refusal.{Refusal}
pub use Rattle.sm_names.specs.declared.rules.TheConstants.{MAX_BUFFERS}
pub use Rattle.sm_names.specs.declared.tracking.Condition.{Condition}
