-- The names that several proofs of this crate cite, passed on from one place. Declares nothing.
pub use Rattle.std.proofs.Common.{List, None, Option, Some, [], ap, arith, false, if◌then◌else◌, map, not, option_map, refl, reverse}
pub use Rattle.std.proofs.Common.{rules, subst, sym, take, w64, ℕ, ◌&&◌, ◌++◌, ◌∙◌, ◌∷◌, ◌≡◌}
pub use Rattle.std.proofs.lemmas.Grind.{common_steps}
pub use Rattle.std.proofs.lemmas.List.{map-append}
pub use Rattle.std.proofs.lemmas.List.Elements.{filter-append}
pub use Rattle.std.specs.Int.{bit_at}
pub use Rattle.std.specs.List.{filter, list_any}
pub use Rattle.std.specs.Option.{option_map_or, unwrap_or}
pub use Rattle.buffer_holds.specs.Counts.{total}
pub use Rattle.core_state.specs.Steps.{Work, leaves_tracker_room, work_of}
pub use Rattle.event_facts.specs.KeyMaps.{values_at}
pub use Rattle.event_facts.specs.Walks.{IsStart}
pub use Rattle.event_facts.specs.declared.marked_steps.Start.{Start}
pub use Rattle.forced_marks.specs.Explanations.{climb}
pub use Rattle.forced_marks.specs.KeySets.{has}
pub use Rattle.forced_marks.specs.Moments.{stage_of}
pub use Rattle.forest_store.specs.Forest.{Collection}
pub use Rattle.forest_store.specs.Nodes.{above_among, is_of}
pub use Rattle.forest_store.specs.Scenes.{IsSound}
pub use Rattle.forest_store.specs.Settling.{changed}
pub use Rattle.forest_store.specs.Snapshots.{collection_of}
pub use Rattle.forest_store.specs.declared.node.Node.{Node}
pub use Rattle.sm_names.specs.Sameness.{same_key}
pub use Rattle.sm_names.specs.declared.keys.NodeKey.{NodeKey}
