-- The names that several proofs of this crate cite, passed on from one place. Declares nothing.
pub use Rattle.std.proofs.Common.{Bool, List, None, Option, Some, [], ap, cond, drop, false, inl, inr, is_some, length, map, not, refl}
pub use Rattle.std.proofs.Common.{set, slice_get, slice_set, subst, suc, sym, true, zero, ℕ, ◌&&◌, ◌++◌, ◌+◌, ◌-◌, ◌==◌, ◌||◌, ◌∙◌, ◌∷◌}
pub use Rattle.std.proofs.Common.{◌≡◌, ◌≤◌, ◌⊎◌}
pub use Rattle.std.proofs.lemmas.Bool.{eq-eqb, eqb-true}
pub use Rattle.std.proofs.lemmas.Grind.{flat_map-append}
pub use Rattle.std.proofs.lemmas.List.{append-nil, map-append}
pub use Rattle.std.proofs.lemmas.Option.{slice_get-map, slice_get_within}
pub use Rattle.std.specs.Int.{bit_at}
pub use Rattle.std.specs.List.{filter, find, flat_map}
pub use Rattle.std.specs.Option.{option_and_then, option_map, option_map_or}
pub use Rattle.actor_plays.proofs.PositionLaws.{all_rest, further, get-other, reached_on}
pub use Rattle.actor_plays.specs.Fates.{end_told, fall_told, falls_at, falls_by, fault_fallen}
pub use Rattle.actor_plays.specs.Leaves.{Leave, all_objects, leave_after, leave_call, vanishing_call}
pub use Rattle.actor_plays.specs.Plays.{Stage, first_stage, has_fired, is_silent, is_wait, joins, leaves_by, left, next_step, passed}
pub use Rattle.actor_plays.specs.Plays.{polls, stage_after}
pub use Rattle.actor_plays.specs.Positions.{Asks, Begins, Calls, Fell, Goes, HasToWait, Leaves, PassOn, Passes, Position, Reached, Rests}
pub use Rattle.actor_plays.specs.Positions.{Setup, left_at}
pub use Rattle.actor_plays.specs.declared.falls.GoneNode.{GoneNode}
pub use Rattle.actor_scripts.proofs.FitLaws.{fits_step}
pub use Rattle.actor_scripts.specs.ActorStates.{Fits, FitsThere, Known, NodePlace, bound, call_at, handle_of, is_bound, new_objects}
pub use Rattle.actor_scripts.specs.ActorStates.{new_place, new_tracker, node_label, object_at, on_of, spends_object, state_after}
pub use Rattle.actor_scripts.specs.ActorStates.{step_call, tracker_label, with_first_gone, with_new, with_node_label, with_object}
pub use Rattle.actor_scripts.specs.ActorStates.{with_objects, with_queues, with_slot_last, with_spot, with_tracker_label, without_handle}
pub use Rattle.actor_scripts.specs.ActorStates.{without_object, without_spent}
unfoldable pub use Rattle.actor_scripts.specs.ActorStates.{handles_from}
pub use Rattle.actor_scripts.specs.declared.object.ActorObject.{ActorObject}
pub use Rattle.actor_scripts.specs.declared.object.StepCall.{StepCall}
pub use Rattle.actor_scripts.specs.declared.step.Step.{Step}
pub use Rattle.alike_cores.proofs.Finding.{sound_apart}
pub use Rattle.alike_cores.proofs.Forcings.{find_alike}
pub use Rattle.alike_cores.proofs.Learning.{keys_stay}
pub use Rattle.alike_cores.proofs.Moving.{keys_moved, keys_same, number_kept, number_moved, number_there}
pub use Rattle.alike_cores.proofs.Settling.{SamePages}
pub use Rattle.alike_cores.proofs.Shown.{shown_sound}
pub use Rattle.alike_cores.proofs.Views.{fired-alike}
pub use Rattle.alike_cores.specs.Alike.{KeepsIds, call_renamed, reply_renamed}
pub use Rattle.alike_cores.specs.Cores.{AreAlikeCores, NamesOld, node_undated, undated}
pub use Rattle.alike_cores.specs.Renamed.{CountsAlike, KeepsKeys, buffer_renamed, change_renamed, collection_renamed, fault_renamed}
pub use Rattle.alike_cores.specs.Renamed.{node_renamed}
pub use Rattle.alike_plays.specs.Actors.{AreAlikeKnown, AreAlikeStages, asked_renamed, leave_renamed, made_of, made_renamed}
pub use Rattle.alike_plays.specs.Actors.{object_renamed, place_renamed, tells_made}
pub use Rattle.alike_plays.specs.Ahead.{AreAlikeAhead, GoesByEarly, ahead, ahead_by, ahead_of, early_in, going_on}
pub use Rattle.alike_plays.specs.AlikePlays.{AreAlikeAll, AreAlikePlays}
pub use Rattle.alike_plays.specs.Closed.{IsClosed, IsMet, IsSimulation}
pub use Rattle.alike_plays.specs.Falls.{FellAlike, fall_renamed, gone_renamed}
pub use Rattle.alike_plays.specs.Names.{KnownActor, KnownCall, KnownGone, KnownObject, KnownReply, KnownStage, NamesAgree}
pub use Rattle.buffer_holds.specs.Counts.{total}
pub use Rattle.core_state.specs.Reads.{readings_of}
pub use Rattle.core_state.specs.Shown.{Shows}
pub use Rattle.core_state.specs.State.{State}
pub use Rattle.core_state.specs.Steps.{Follows}
pub use Rattle.core_state.specs.Theorem.{Makes}
pub use Rattle.explore_model.specs.Plans.{steps_of}
pub use Rattle.explore_model.specs.declared.found.Turn.{Turn}
pub use Rattle.explore_model.specs.declared.plan.Plan.{Plan}
pub use Rattle.explore_model.specs.declared.plan.Planned.{Planned}
pub use Rattle.forced_marks.specs.Marks.{AreStages, SettlesBy, own_stage, stages}
pub use Rattle.forest_store.specs.Forest.{Collection, given}
pub use Rattle.forest_store.specs.Nodes.{after_loss, member_of}
pub use Rattle.forest_store.specs.Settling.{Handles, changed, is_birth, made, no_key}
pub use Rattle.forest_store.specs.declared.change.Change.{Change}
pub use Rattle.forest_store.specs.declared.node.Node.{Node}
pub use Rattle.sm_names.proofs.ListLaws.{In, In-append, In-filter, In-find, In-map}
pub use Rattle.sm_names.proofs.SamenessLaws.{both_ways, either_way, map-Some, none_is, none_or_some, or_left, same_key-refl}
pub use Rattle.sm_names.proofs.SamenessLaws.{same_key-true, some-injective}
pub use Rattle.sm_names.specs.Answers.{answer, new_key}
pub use Rattle.sm_names.specs.CallRows.{row_for}
pub use Rattle.sm_names.specs.Ends.{joined_at}
pub use Rattle.sm_names.specs.Marks.{Allocated, Called, Ended, Entry, Loss, Mark}
pub use Rattle.sm_names.specs.Members.{is_under}
pub use Rattle.sm_names.specs.Sameness.{same_buffer, same_key}
pub use Rattle.sm_names.specs.Timelines.{buffer_of}
pub use Rattle.sm_names.specs.declared.call_parts.Argument.{Argument}
pub use Rattle.sm_names.specs.declared.call_parts.Target.{Target}
pub use Rattle.sm_names.specs.declared.keys.BufferName.{BufferName}
pub use Rattle.sm_names.specs.declared.keys.Interval.{Interval}
pub use Rattle.sm_names.specs.declared.keys.Kind.{Kind}
pub use Rattle.sm_names.specs.declared.keys.NodeKey.{NodeKey}
pub use Rattle.sm_names.specs.declared.keys.Strength.{Strength}
pub use Rattle.sm_names.specs.declared.messages.Call.{Call}
pub use Rattle.sm_names.specs.declared.messages.Reply.{Reply}
pub use Rattle.sm_names.specs.declared.outcomes.Fault.{Fault}
pub use Rattle.sm_names.specs.declared.rules.TheConstants.{MAX_BUFFERS}
pub use Rattle.sm_names.specs.declared.tracking.Fired.{Fired}
