-- The names that several proofs of this crate cite, passed on from one place. Declares nothing.
pub use Rattle.std.proofs.Common.{Bool, List, None, Option, Some, [], ap, append-nil, append_assoc, cond, false, inl, inr, map, not, refl}
pub use Rattle.std.proofs.Common.{subst, sym, true, ℕ, ◌&&◌, ◌++◌, ◌∙◌, ◌∷◌, ◌≡◌}
pub use Rattle.std.proofs.lemmas.Bool.{eqb-true}
pub use Rattle.std.specs.List.{filter, flat_map, list_any}
pub use Rattle.std.specs.Option.{option_map, option_map_or}
pub use Rattle.actor_plays.specs.Fates.{falls_at, falls_by, fault_fallen}
pub use Rattle.actor_plays.specs.Plays.{Plays, joins}
pub use Rattle.actor_plays.specs.declared.falls.GoneNode.{GoneNode}
pub use Rattle.core_state.proofs.ends.NotRead.{placed_in}
pub use Rattle.core_state.proofs.forced.Settled.{counts_on}
pub use Rattle.core_state.proofs.theorem.Follows.{Counts, Matches}
pub use Rattle.core_state.specs.Shown.{Shows, node_after}
pub use Rattle.core_state.specs.State.{State}
pub use Rattle.explore_model.specs.declared.found.Turn.{Turn}
pub use Rattle.forced_marks.specs.Marks.{laid_on, stages}
pub use Rattle.forest_store.specs.Forest.{Collection}
pub use Rattle.forest_store.specs.declared.node.End.{End}
pub use Rattle.forest_store.specs.declared.node.Node.{Node}
pub use Rattle.history_laws.proofs.BirthLaws.{birth_is}
pub use Rattle.history_laws.proofs.GrowthLaws.{Grows, legal_grows}
pub use Rattle.history_laws.proofs.LifeLaws.{whole}
pub use Rattle.sm_names.proofs.ListLaws.{is_some-find}
pub use Rattle.sm_names.proofs.SamenessLaws.{both_ways, either_way, map-Some}
pub use Rattle.sm_names.specs.Answers.{IsAnswer}
pub use Rattle.sm_names.specs.Births.{Birth, birth_of, births, collection_in, was_born}
pub use Rattle.sm_names.specs.Bounds.{Bound}
pub use Rattle.sm_names.specs.Kept.{is_kept}
pub use Rattle.sm_names.specs.Losses.{fault, gone}
pub use Rattle.sm_names.specs.Marks.{Called, Ended, Entry, Loss, Mark, Timeline}
pub use Rattle.sm_names.specs.Reading.{readings}
pub use Rattle.sm_names.specs.Sameness.{same_key}
pub use Rattle.sm_names.specs.Timelines.{after, timeline}
pub use Rattle.sm_names.specs.declared.keys.Interval.{Interval}
pub use Rattle.sm_names.specs.declared.keys.NodeKey.{NodeKey}
pub use Rattle.sm_names.specs.declared.messages.Call.{Call}
pub use Rattle.sm_names.specs.declared.messages.Reply.{Reply}
pub use Rattle.sm_names.specs.declared.outcomes.Cause.{Cause}
pub use Rattle.sm_names.specs.declared.outcomes.Fault.{Fault}
