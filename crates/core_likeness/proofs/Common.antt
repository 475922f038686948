-- The names that several proofs of this crate cite, passed on from one place. Declares nothing.
pub use Rattle.std.proofs.Common.{Bool, List, None, Option, Some, [], ap, arith, cond, drop, false, get_or, inl, inr, is_none, length}
pub use Rattle.std.proofs.Common.{map, not, refl, reverse, subst, suc, sym, take, true, unwrap_or, ℕ, ◌&&◌, ◌++◌, ◌+◌, ◌<◌, ◌==◌, ◌∙◌}
pub use Rattle.std.proofs.Common.{◌∷◌, ◌≡◌, ◌≤◌}
pub use Rattle.std.proofs.lemmas.Bool.{eq-eqb, eqb-true}
pub use Rattle.std.proofs.lemmas.Grind.{common_steps}
pub use Rattle.std.proofs.lemmas.List.{append-nil, drop_all, map-append, nil_from_length, reverse-append, take_all, take_more}
pub use Rattle.std.proofs.lemmas.List.Elements.{filter-append, filter_map-append}
pub use Rattle.std.specs.Int.{bit_at}
pub use Rattle.std.specs.List.{cons_option, filter, filter_map, list_any, remove}
pub use Rattle.alike_cores.proofs.Mixing.{mixed-map}
pub use Rattle.alike_cores.specs.Alike.{KeepsIds, client_renamed}
pub use Rattle.alike_cores.specs.Cores.{node_undated, tracker_renamed, undated}
pub use Rattle.alike_cores.specs.Mixed.{Mixed, Nothing}
pub use Rattle.alike_cores.specs.Renamed.{collection_renamed, held_renamed, node_renamed}
pub use Rattle.core_likeness.specs.Naming.{new_id, new_key, new_number, same_number, under}
pub use Rattle.core_likeness.specs.Parts.{AreCounted, IsCounted, SameCounts}
pub use Rattle.core_likeness.specs.Told.{born_by, is_opened, opening_by, roots, tracked_of}
pub use Rattle.core_likeness.specs.declared.readings.openings.Opening.{Opening}
pub use Rattle.core_likeness.specs.declared.readings.tracking.Attached.{Attached}
pub use Rattle.core_state.specs.Shown.{Shows, client_after}
pub use Rattle.core_state.specs.State.{State}
pub use Rattle.event_laws.specs.ByEvent.{entry_mark}
pub use Rattle.forest_store.specs.Forest.{collection_at}
pub use Rattle.history_laws.proofs.GrowthLaws.{legal_grows}
pub use Rattle.history_laws.proofs.KeptLaws.{kept-after}
pub use Rattle.sm_names.proofs.ListLaws.{In, In-any, In-append, In-list_any, map-map}
pub use Rattle.sm_names.proofs.SamenessLaws.{and_left, and_right, either_way, false_if}
pub use Rattle.sm_names.specs.Births.{Birth, birth_at, births}
pub use Rattle.sm_names.specs.Ends.{collects, given_at}
pub use Rattle.sm_names.specs.Marks.{Allocated, Called, Ended, Entry, Loss, Mark, Timeline, events, is_event}
pub use Rattle.sm_names.specs.Sameness.{same_key}
pub use Rattle.sm_names.specs.Timelines.{after, opened_by, timeline}
pub use Rattle.sm_names.specs.Trackers.{Tracked, collection_of_node, tracked, tracked_at}
pub use Rattle.sm_names.specs.Words.{times}
pub use Rattle.sm_names.specs.declared.keys.BufferName.{BufferName}
pub use Rattle.sm_names.specs.declared.keys.NodeKey.{NodeKey}
pub use Rattle.sm_names.specs.declared.keys.Strength.{Strength}
pub use Rattle.sm_names.specs.declared.messages.Call.{Call}
pub use Rattle.sm_names.specs.declared.messages.Reply.{Reply}
pub use Rattle.sm_names.specs.declared.tracking.Fired.{Fired}
