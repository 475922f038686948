-- The names that several proofs of this crate cite, passed on from one place. Declares nothing.
pub use Rattle.std.proofs.Common.{Bool, IfSome, List, None, Option, Some, [], ap, arith, cond, false, inl, inr, length, map, nat_le}
pub use Rattle.std.proofs.Common.{nat_lt, not, refl, reverse, subst, sym, true, ℕ, ◌&&◌, ◌++◌, ◌+◌, ◌-◌, ◌<◌, ◌==◌, ◌||◌, ◌∙◌, ◌∷◌, ◌≡◌}
pub use Rattle.std.proofs.Common.{◌≤◌, ◌⊎◌}
pub use Rattle.std.proofs.lemmas.Bool.{eq-eqb, eqb-true, false≢true}
pub use Rattle.std.proofs.lemmas.List.{append-nil, map-append}
pub use Rattle.std.proofs.lemmas.List.Sums.{sum_by-cons}
pub use Rattle.std.specs.List.{cons_option, filter, find, flat_map, list_any, sum_by}
pub use Rattle.std.specs.Option.{option_and_then, option_map, option_map_or, unwrap_or}
pub use Rattle.alike_cores.specs.Alike.{AreAlike, KeepsIds, call_renamed, client_renamed, end_renamed, parcel_renamed, reply_renamed}
pub use Rattle.alike_cores.specs.Cores.{AreAlikeCores, condition_renamed, node_undated, tracker_renamed, undated}
pub use Rattle.alike_cores.specs.Mixed.{Keeps, Mixed, Mixes, Nothing, Swaps}
pub use Rattle.alike_cores.specs.Renamed.{CountsAlike, KeepsKeys, buffer_renamed, change_renamed, collection_renamed, fault_renamed}
pub use Rattle.alike_cores.specs.Renamed.{held_renamed, mark_renamed, member_renamed, node_renamed, standing_renamed}
pub use Rattle.buffer_holds.specs.Counts.{of, total}
pub use Rattle.core_state.proofs.collections.ById.{ids}
pub use Rattle.core_state.proofs.theorem.OfHistory.{sound_of}
pub use Rattle.core_state.specs.Reads.{end_in, joined_client, open_end_in, open_end_of, readings_of, world_in}
pub use Rattle.core_state.specs.Shown.{Shows, tracked_as}
pub use Rattle.core_state.specs.State.{Client, HandleCounts, State}
pub use Rattle.core_state.specs.Steps.{Follows, Work, Worked, birth_by, clients_by, end_by, tracker_by, work_of}
pub use Rattle.core_state.specs.Tasks.{with_key}
pub use Rattle.core_state.specs.Theorem.{Makes}
pub use Rattle.core_state.specs.Whole.{AreOnce, IsSound, Rise}
pub use Rattle.core_state.specs.declared.task.EndPlace.{EndPlace}
pub use Rattle.forest_store.specs.Forest.{Collection, Forest, collection_at, given, node_at, pages_in, tidied, with_nodes}
pub use Rattle.forest_store.specs.Nodes.{affected, after_allocation, after_loss, ended, given_buffers, is_spent, is_taken, is_unkept}
pub use Rattle.forest_store.specs.Nodes.{lost, member_of, members_of, new_child, new_root, node_of, with_end}
pub use Rattle.forest_store.specs.Settling.{Forces, Handles, Rests, Settles, changed, collection_or_new, given_back, is_birth, is_home_in}
pub use Rattle.forest_store.specs.Settling.{is_root_of, made, put, standing}
pub use Rattle.forest_store.specs.declared.change.Change.{Change}
pub use Rattle.forest_store.specs.declared.change.Effect.{Effect}
pub use Rattle.forest_store.specs.declared.node.Node.{Node}
pub use Rattle.history_laws.proofs.GrowthLaws.{legal_grows}
pub use Rattle.sm_names.proofs.ListLaws.{In, In-any, In-append, In-find, In-map, In-map-back, map-map}
pub use Rattle.sm_names.proofs.SamenessLaws.{both_ways, either_way, false_if, map-Some, none_or_some, or_right, same_key-refl}
pub use Rattle.sm_names.proofs.SamenessLaws.{same_key-true, some-injective}
pub use Rattle.sm_names.specs.Answers.{OpenEnd, Readings, acquires, answer, answers_first, closing, collected, effect, end_named}
pub use Rattle.sm_names.specs.Answers.{is_anothers, key_told, kind_for, limits_met, makes_collection, makes_node, makes_tracker, misuse}
pub use Rattle.sm_names.specs.Answers.{misuse_of, misused_if, new_key, no_handle, peer_closed, receiver_of, refused_if, set_of}
pub use Rattle.sm_names.specs.Answers.{strength_of, too_many_handles, unknown_client}
pub use Rattle.sm_names.specs.Bounds.{Bound}
pub use Rattle.sm_names.specs.Ends.{joined_at}
pub use Rattle.sm_names.specs.Forced.{Standing, abandoned, ending, forced, logical_allocation, outcome}
pub use Rattle.sm_names.specs.Handles.{is_doomed, is_home, names}
pub use Rattle.sm_names.specs.Marks.{Allocated, Called, Ended, Entry, Loss, Mark}
pub use Rattle.sm_names.specs.Members.{Member, asked, is_ready, is_under, root_left, some_strong_live}
pub use Rattle.sm_names.specs.Pages.{pages_of, places}
pub use Rattle.sm_names.specs.Sameness.{same_buffer, same_key, same_kind, same_strength}
pub use Rattle.sm_names.specs.Timelines.{key_of, laid_out, timeline}
pub use Rattle.sm_names.specs.Trackers.{Tracked}
pub use Rattle.sm_names.specs.Words.{first_some, when}
pub use Rattle.sm_names.specs.declared.keys.BufferName.{BufferName}
pub use Rattle.sm_names.specs.declared.keys.HeldBuffer.{HeldBuffer}
pub use Rattle.sm_names.specs.declared.keys.Interval.{Interval}
pub use Rattle.sm_names.specs.declared.keys.NodeKey.{NodeKey}
pub use Rattle.sm_names.specs.declared.keys.Strength.{Strength}
pub use Rattle.sm_names.specs.declared.messages.Call.{Call}
pub use Rattle.sm_names.specs.declared.messages.Parcel.{Parcel}
pub use Rattle.sm_names.specs.declared.messages.Reply.{Reply}
pub use Rattle.sm_names.specs.declared.outcomes.Buffers.{Buffers}
pub use Rattle.sm_names.specs.declared.outcomes.Cause.{Cause}
pub use Rattle.sm_names.specs.declared.outcomes.Failure.{Failure}
pub use Rattle.sm_names.specs.declared.outcomes.Fault.{Fault}
pub use Rattle.sm_names.specs.declared.outcomes.Misuse.{Misuse}
pub use Rattle.sm_names.specs.declared.outcomes.Refusal.{Refusal}
pub use Rattle.sm_names.specs.declared.rules.TheConstants.{MAX_BUFFERS, MAX_NODE_TRACKERS}
pub use Rattle.sm_names.specs.declared.tracking.Condition.{Condition}
pub use Rattle.sm_names.specs.declared.tracking.Fired.{Fired}
pub use Rattle.trackers.specs.Table.{TrackerTable, firings, still_waiting}
pub use Rattle.trackers.specs.declared.waiting.Waiting.{Waiting}
