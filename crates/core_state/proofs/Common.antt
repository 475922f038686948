-- The names that several proofs of this crate cite, passed on from one place. Declares nothing.
pub use Rattle.std.proofs.Common.{Bool, Err, IfSome, List, None, Ok, OnOk, Option, Result, Some, [], ap, append_assoc, arith, cond, drop}
pub use Rattle.std.proofs.Common.{false, get_or, if◌then◌else◌, inl, inr, is_none, is_some, length, map, nat_le, nat_lt, not, refl}
pub use Rattle.std.proofs.Common.{replicate, reverse, rules, set, subst, suc, sym, true, zero, ℕ, ◌&&◌, ◌++◌, ◌+◌, ◌-◌, ◌<◌, ◌==◌, ◌^◌}
pub use Rattle.std.proofs.Common.{◌||◌, ◌↔◌, ◌∙◌, ◌∷◌, ◌≡◌, ◌≢◌, ◌≤◌, ◌⊎◌}
pub use Rattle.std.proofs.Math.Bool.{and-false}
pub use Rattle.std.proofs.lemmas.Bool.{cases_lt, eq-eqb, eqb-false, eqb-true, false≢true, leb-false, leb-true, lt-ltb, ltb-false}
pub use Rattle.std.proofs.lemmas.Bool.{ltb-true, not-true}
pub use Rattle.std.proofs.lemmas.Grind.{common_steps}
pub use Rattle.std.proofs.lemmas.List.{append-nil, length-map, map-append, reverse-append}
pub use Rattle.std.proofs.lemmas.List.Elements.{filter-append}
pub use Rattle.std.proofs.lemmas.List.Folds.{flat_map-map}
pub use Rattle.std.proofs.lemmas.List.Sums.{length-filter, sum_by-cons}
pub use Rattle.std.proofs.lemmas.Nat.Bits.{bit_at-zero}
pub use Rattle.std.proofs.lemmas.Result.{on_ok_weaker}
pub use Rattle.std.specs.Int.{bit_at}
pub use Rattle.std.specs.List.{All, AllByRecursion, cons_option, count_by, filter, find, flat_map, list_any, range_with_len, sum_by}
pub use Rattle.std.specs.Option.{option_and_then, option_map, option_map_or, option_or, unwrap_or}
pub use Rattle.buffer_holds.proofs.SetLemmas.{still, up}
pub use Rattle.buffer_holds.specs.Changes.{AddsSet, Sets, Tidies, is_in_set_below}
pub use Rattle.buffer_holds.specs.Counts.{Counts, HasPlaces, moving_count, of, total}
pub use Rattle.buffer_pool.specs.Holdings.{Holdings, in_order}
pub use Rattle.buffer_pool.specs.Holes.{end_of}
pub use Rattle.core_state.specs.Hands.{MayMove, MovesHandles, Opens, collects_handle, is_the}
pub use Rattle.core_state.specs.Kinds.{fits_call}
pub use Rattle.core_state.specs.Reads.{buffers_in, end_in, fault_in, is_live_in, joined_client, open_end_of, readings_of, to_open_in}
pub use Rattle.core_state.specs.Reads.{views_of, world_in}
pub use Rattle.core_state.specs.Shown.{IsAfter, Shows, client_after, collection_after, end_after, forgetting, handles_after, held_after}
pub use Rattle.core_state.specs.Shown.{kept_ids, node_after, nodes_after, recalling, tracked_as}
pub use Rattle.core_state.specs.State.{Client, HandleCounts, IsSame, State, counts_of, empty_state}
pub use Rattle.core_state.specs.Steps.{Follows, GainsTracker, Work, Worked, at_collection, at_node, client_by, clients_by, done_to}
pub use Rattle.core_state.specs.Steps.{drop_at, end_by, handles_by, loss_at, new_client, place_of, swept, tracker_by, with_place}
pub use Rattle.core_state.specs.Steps.{without_unkept, work_of}
pub use Rattle.core_state.specs.Tasks.{MayDo, Parts, Reworked, SpendsThere, TakesEffect, carried_by, looked_in, spent_by, spent_place}
pub use Rattle.core_state.specs.Tasks.{takes_room, with_key, work_in, work_on}
pub use Rattle.core_state.specs.Theorem.{GoesOn, Leads, Makes, entries, refused_call}
pub use Rattle.core_state.specs.Whole.{CanCarry, CanFinish, IsAmid, IsCore, IsSound, IsTidy, NoBufferHome, Rise}
pub use Rattle.core_state.specs.declared.handle_changes.TheConstants.{SET_BITS}
pub use Rattle.core_state.specs.declared.task.EndPlace.{EndPlace}
pub use Rattle.core_state.specs.declared.task.EventTask.{EventTask}
pub use Rattle.event_laws.proofs.FreeEndLaws.{passed}
pub use Rattle.event_laws.proofs.HandLaws.{same_after}
pub use Rattle.event_laws.proofs.HandleCaseLaws.{same_buffer-refl}
pub use Rattle.event_laws.proofs.HandleEventLaws.{idle_drops, idle_gains, idle_lands, idle_lifts, idle_loses, idle_opens}
pub use Rattle.event_laws.proofs.MomentLaws.{events_after}
pub use Rattle.event_laws.proofs.NumberLaws.{In-all, all-In}
pub use Rattle.event_laws.proofs.ParcelEventLaws.{stranger_waits_for_none}
pub use Rattle.event_laws.proofs.RecallLaws.{recalled_due}
pub use Rattle.event_laws.proofs.TransitLaws.{end_at}
pub use Rattle.event_laws.specs.ByEvent.{GoesBy, SameHands, anyone, gains, is_about_handles, loses, one_if, only}
pub use Rattle.event_laws.specs.Waiting.{IsRecalled, trackers_to_test, unfired_trackers}
pub use Rattle.forest_store.proofs.lists.Elements.{map-same}
pub use Rattle.forest_store.specs.Forest.{Collection, Forest, IsPoolOf, SameKeys, all_held, all_nodes, beside, collection_at, given}
pub use Rattle.forest_store.specs.Forest.{is_left, live_keys, node_at, node_count, pages_in, tidied, with_nodes, without_unkept_in}
pub use Rattle.forest_store.specs.Nodes.{above_among, affected, after_allocation, after_end, after_loss, ended, given_buffers, is_of}
pub use Rattle.forest_store.specs.Nodes.{is_spent, is_taken, is_unkept, lost, member_of, members_of, new_child, new_root, node_of}
pub use Rattle.forest_store.specs.Nodes.{with_end}
pub use Rattle.forest_store.specs.Settling.{Handles, MayChange, Settled, Settles, changed, collection_or_new, given_back, is_home_in}
pub use Rattle.forest_store.specs.Settling.{is_root_of, made, no_key, put}
pub use Rattle.forest_store.specs.declared.change.Change.{Change}
pub use Rattle.forest_store.specs.declared.change.Effect.{Effect}
pub use Rattle.forest_store.specs.declared.node.End.{End}
pub use Rattle.forest_store.specs.declared.node.Node.{Node}
pub use Rattle.history_laws.proofs.AnswerLaws.{TookEffect, took_effect_all}
pub use Rattle.history_laws.proofs.BirthLaws.{Comes, HasEnd, birth_is, comes, named}
pub use Rattle.history_laws.proofs.BitLaws.{bit_of_set, named_below}
pub use Rattle.history_laws.proofs.CountLaws.{caller_joined, client-le-total, counted}
pub use Rattle.history_laws.proofs.ForgetLaws.{any-left, left_of, strong-left}
pub use Rattle.history_laws.proofs.GoneLaws.{fault_gone, gone_stays}
pub use Rattle.history_laws.proofs.GrowthLaws.{Allocates, Answers, Ends, Grows, Loses, Stays, grows_after, grows_forced, grows_lost}
pub use Rattle.history_laws.proofs.GrowthLaws.{legal_grows}
pub use Rattle.history_laws.proofs.HandleLaws.{some_open}
pub use Rattle.history_laws.proofs.HeldLaws.{given_root, stands_held}
pub use Rattle.history_laws.proofs.HistoryLaws.{timeline-push}
pub use Rattle.history_laws.proofs.IsolationLaws.{birth_of_collection, of_ours}
pub use Rattle.history_laws.proofs.KeptLaws.{kept-after}
pub use Rattle.history_laws.proofs.LayoutLaws.{placed_given}
pub use Rattle.history_laws.proofs.LifeLaws.{In_old, IsOrdered, ordered, whole}
pub use Rattle.history_laws.proofs.ReachLaws.{other_key}
pub use Rattle.history_laws.proofs.RejectLaws.{in_transit_rejects, is_refusal, no_end_rejects, not_refused_end, shut_rejects}
pub use Rattle.history_laws.proofs.RejectLaws.{unknown_rejects}
pub use Rattle.history_laws.proofs.RestLaws.{every_rests}
pub use Rattle.history_laws.proofs.SettledLaws.{Fails, In-was_born, Initial, Logical, No_live, Why, find_birth, forced_why, member_birth}
pub use Rattle.history_laws.proofs.SettledLaws.{settled_rests}
pub use Rattle.history_laws.proofs.SumLaws.{In-le-sum_by, one}
pub use Rattle.history_laws.proofs.TakeLaws.{none_key}
pub use Rattle.history_laws.proofs.WholeLaws.{IsWhole}
pub use Rattle.sm_names.proofs.ListLaws.{In, In-any, In-append, In-filter, In-filter-back, In-find, In-front, In-list_any, In-map}
pub use Rattle.sm_names.proofs.ListLaws.{In-map-back, In-reverse, In-reverse-back, filter-In, filter-all, filter-less, filter-none}
pub use Rattle.sm_names.proofs.ListLaws.{filter-swap, is_some-find, map-In, map-map}
pub use Rattle.sm_names.proofs.PlaceLaws.{places_same}
pub use Rattle.sm_names.proofs.SamenessLaws.{and_both, and_left, and_right, and_then-Some, both_tests, both_ways, either_way, false_if}
pub use Rattle.sm_names.proofs.SamenessLaws.{map-Some, none_if, none_or_some, or_cases, or_false, or_left, or_none_left, or_none_right}
pub use Rattle.sm_names.proofs.SamenessLaws.{or_right, same_buffer-true, same_key-refl, same_key-true}
pub use Rattle.sm_names.specs.Answers.{IsAnswer, OpenEnd, Readings, answer, answers_first, closing, collected, effect, end_in_transit}
pub use Rattle.sm_names.specs.Answers.{end_named, key_told, limits_met, makes_node, makes_tracker, misuse, new_key, no_end, no_handle}
pub use Rattle.sm_names.specs.Answers.{peer_closed, refused_if, set_of, shut_client, strength_of, unknown_client, wrong_kind}
pub use Rattle.sm_names.specs.Births.{AreSound, AreTogether, Birth, ancestors, birth_at, birth_of, births, collection_in, was_born}
pub use Rattle.sm_names.specs.Bounds.{Bound}
pub use Rattle.sm_names.specs.Changes.{highest}
pub use Rattle.sm_names.specs.Ends.{clients, collector, collects, given_at, has_joined, holder, in_transit, is_handle_of, is_shut}
pub use Rattle.sm_names.specs.Ends.{joined_at, parcels, shuts, spent}
pub use Rattle.sm_names.specs.Forced.{Standing, abandoned, forced, initial_failure}
pub use Rattle.sm_names.specs.Handles.{buffer_names, buffers_of, doomed, drops, home, is_doomed, is_home, is_initial, lands, left, lifts}
pub use Rattle.sm_names.specs.Handles.{names, open_of, open_total, opens}
pub use Rattle.sm_names.specs.Isolation.{IsOf}
pub use Rattle.sm_names.specs.Kept.{is_kept, is_kept_collection}
pub use Rattle.sm_names.specs.Losses.{allocated, fault, gone, is_allocation, live, reaches, released}
pub use Rattle.sm_names.specs.Marks.{Allocated, Called, Ended, Entry, Loss, Mark, Timeline, events, is_event, took_effect}
pub use Rattle.sm_names.specs.Members.{Member, asked, births_in, constraints, is_root, is_under, member, members, root_left}
pub use Rattle.sm_names.specs.Members.{some_strong_live}
pub use Rattle.sm_names.specs.Pages.{pages_of, places}
pub use Rattle.sm_names.specs.Reading.{is_taking, is_tracking, open_end, readings}
pub use Rattle.sm_names.specs.Sameness.{same_buffer, same_key, same_strength}
pub use Rattle.sm_names.specs.Timelines.{Forces, Rests, after, collection_of, held, key_of, laid_out, layout, layout_at, next_forced}
pub use Rattle.sm_names.specs.Timelines.{own_loss, placed, settled, standing, still_out, timeline}
pub use Rattle.sm_names.specs.Trackers.{World, holds, world}
pub use Rattle.sm_names.specs.Views.{free_pages, held_by_page, live_nodes}
pub use Rattle.sm_names.specs.Weakness.{covered, covers_children, sets_weak, sets_weak_ok, weak}
pub use Rattle.sm_names.specs.Words.{first_some, insert_by, sorted_by, times, when}
pub use Rattle.sm_names.specs.declared.keys.BufferName.{BufferName}
pub use Rattle.sm_names.specs.declared.keys.HeldBuffer.{HeldBuffer}
pub use Rattle.sm_names.specs.declared.keys.Interval.{Interval}
pub use Rattle.sm_names.specs.declared.keys.NodeKey.{NodeKey}
pub use Rattle.sm_names.specs.declared.keys.Strength.{Strength}
pub use Rattle.sm_names.specs.declared.keys.Strength.TheVariants.{Strong, Weak}
pub use Rattle.sm_names.specs.declared.messages.Call.{Call}
pub use Rattle.sm_names.specs.declared.messages.Parcel.{Parcel}
pub use Rattle.sm_names.specs.declared.messages.Reply.{Reply}
pub use Rattle.sm_names.specs.declared.outcomes.Buffers.{Buffers}
pub use Rattle.sm_names.specs.declared.outcomes.Cause.{Cause}
pub use Rattle.sm_names.specs.declared.outcomes.Failure.{Failure}
pub use Rattle.sm_names.specs.declared.outcomes.Fault.{Fault}
pub use Rattle.sm_names.specs.declared.outcomes.Misuse.{Misuse}
pub use Rattle.sm_names.specs.declared.outcomes.Refusal.{Refusal}
pub use Rattle.sm_names.specs.declared.rules.TheConstants.{MAX_BUFFERS, MAX_NODE_TRACKERS}
pub use Rattle.sm_names.specs.declared.tracking.Condition.{Condition}
pub use Rattle.sm_names.specs.declared.tracking.Fired.{Fired}
pub use Rattle.trackers.specs.Table.{Cell, TrackerTable, firings, is_due, is_unfired, without_id}
pub use Rattle.trackers.specs.declared.waiting.Waiting.{Waiting}
