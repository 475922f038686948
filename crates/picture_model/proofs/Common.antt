-- The names that several proofs of this crate cite, passed on from one place. Declares nothing.
pub use Rattle.std.proofs.Common.{Bool, List, None, Option, Some, [], ap, append-nil, append_assoc, arith, false, is_some, length, map}
pub use Rattle.std.proofs.Common.{not, refl, subst, sym, take, true, ℕ, ◌&&◌, ◌++◌, ◌+◌, ◌<◌, ◌==◌, ◌||◌, ◌∙◌, ◌∷◌, ◌≡◌, ◌⊎◌}
pub use Rattle.std.proofs.lemmas.Bool.{eq-eqb}
pub use Rattle.std.proofs.lemmas.Grind.{common_steps}
pub use Rattle.std.proofs.lemmas.List.{map-append}
pub use Rattle.std.proofs.lemmas.List.Elements.{filter-append}
pub use Rattle.std.proofs.lemmas.List.Folds.{find-append}
pub use Rattle.std.specs.List.{filter, find, fold, list_any}
pub use Rattle.std.specs.Option.{option_map, option_map_or}
pub use Rattle.core_state.specs.Reads.{views_of}
pub use Rattle.core_state.specs.State.{State}
pub use Rattle.event_facts.specs.declared.event.Event.{Event}
pub use Rattle.forced_marks.specs.KeySets.{has}
pub use Rattle.forced_marks.specs.Marks.{laid_on}
pub use Rattle.forced_marks.specs.Steps.{mark_told}
pub use Rattle.forced_marks.specs.declared.moment.Moment.{Moment}
pub use Rattle.forest_store.specs.Forest.{collection_at, node_at}
pub use Rattle.forest_store.specs.Nodes.{is_of}
pub use Rattle.forest_store.specs.declared.node.Node.{Node}
pub use Rattle.picture_model.specs.Kin.{FindsNodes}
pub use Rattle.picture_model.specs.PictureStates.{known_after, known_in, left_if, marked_in, refreshed, seen_again, with_told}
pub use Rattle.picture_model.specs.Seen.{seen_in}
pub use Rattle.picture_model.specs.Shown.{Family, TreeLists, is_shown, lists_of, told_in, tree_in, trees_of, words_of}
pub use Rattle.picture_model.specs.Travels.{followed, is_past, trace_in}
pub use Rattle.picture_model.specs.declared.failure_view.Reached.{Reached}
pub use Rattle.sm_names.proofs.ListLaws.{In-find}
pub use Rattle.sm_names.specs.Births.{Birth, birth_at, births}
pub use Rattle.sm_names.specs.Kept.{is_kept}
pub use Rattle.sm_names.specs.Marks.{Called, Timeline}
pub use Rattle.sm_names.specs.Sameness.{same_key}
pub use Rattle.sm_names.specs.declared.keys.NodeKey.{NodeKey}
pub use Rattle.sm_names.specs.declared.messages.Call.{Call}
pub use Rattle.sm_names.specs.declared.messages.Reply.{Reply}
