-- The names that several proofs of this crate cite, passed on from one place. Declares nothing.
pub use Rattle.std.proofs.Common.{Bool, List, None, Option, Some, [], ap, arith, cond, drop, false, if◌then◌else◌, inl, inr, is_none}
pub use Rattle.std.proofs.Common.{is_some, length, map, nat_le, nat_lt, not, refl, reverse, rules, subst, suc, sym, take, tests, true, ℕ}
pub use Rattle.std.proofs.Common.{◌&&◌, ◌*◌, ◌++◌, ◌+◌, ◌-◌, ◌<◌, ◌||◌, ◌∙◌, ◌∷◌, ◌≡◌, ◌≤◌, ◌⊎◌}
pub use Rattle.std.proofs.lemmas.Bool.{lt-ltb, ltb-false, ltb-true, not-true}
pub use Rattle.std.proofs.lemmas.Grind.{common_steps}
pub use Rattle.std.proofs.lemmas.Iterator.{YieldsList-from_slice}
pub use Rattle.std.proofs.lemmas.Iterator.Search.{find_from_yields_List}
pub use Rattle.std.proofs.lemmas.List.{length-map}
pub use Rattle.std.proofs.lemmas.List.Folds.{list_any-append}
pub use Rattle.std.specs.List.{cons_option, find, fold, list_all, list_any, range_with_len, sum_by}
pub use Rattle.std.specs.Option.{IfSome, option_map_or, unwrap_or}
pub use Rattle.std.specs.Vec.{with_items}
pub use Rattle.buffer_holds.specs.Counts.{total}
pub use Rattle.core_state.proofs.forced.Settled.{counts_on}
pub use Rattle.core_state.proofs.theorem.Follows.{Counts, forced_matches}
pub use Rattle.core_state.specs.State.{HandleCounts, State}
pub use Rattle.core_state.specs.Steps.{Follows, Work, work_of}
pub use Rattle.forced_marks.specs.Explanations.{Handing}
pub use Rattle.forced_marks.specs.KeySets.{climbs_into, has, left_by}
pub use Rattle.forced_marks.specs.Marks.{SettlesBy, Stage, StagesIn, changed_by, laid_on, own_mark, own_stage, stages}
pub use Rattle.forced_marks.specs.Moments.{stage_of}
pub use Rattle.forced_marks.specs.Steps.{mark_told, told}
pub use Rattle.forced_marks.specs.declared.decision.PendingStep.{PendingStep}
pub use Rattle.forest_store.proofs.lists.Lookups.{same_key-swap}
pub use Rattle.forest_store.proofs.quiescence.Forcing.{forced_made}
pub use Rattle.forest_store.specs.Decisions.{Allocates, Decision, Ends, IsStep, Loses, Places, decided, mark_of}
pub use Rattle.forest_store.specs.Forest.{Collection, beside, collection_at, pages_in, with_nodes}
pub use Rattle.forest_store.specs.Nodes.{above_among, affected, after_allocation, after_end, after_loss, ended, given_buffers, is_of}
pub use Rattle.forest_store.specs.Nodes.{is_taken, lost, members_of, new_child, node_of}
pub use Rattle.forest_store.specs.Questions.{blocks_here, demands_of, is_below, is_root_left}
pub use Rattle.forest_store.specs.Scenes.{IsSound, are_distinct, laid}
pub use Rattle.forest_store.specs.Settling.{Handles, MayChange, changed, collection_or_new, has_collection, is_birth, made, standing}
pub use Rattle.forest_store.specs.Settling.{with_birth}
pub use Rattle.forest_store.specs.Snapshots.{collection_of}
pub use Rattle.forest_store.specs.declared.change.Change.{Change}
pub use Rattle.forest_store.specs.declared.change.Effect.{Effect}
pub use Rattle.forest_store.specs.declared.node.Node.{Node}
pub use Rattle.history_laws.proofs.GrowthLaws.{Grows, legal_grows}
pub use Rattle.history_laws.proofs.RestLaws.{every_rests}
pub use Rattle.sm_names.proofs.ListLaws.{In-any, In-filter, In-find, In-list_any, In-map, In-reverse, In-reverse-back, is_some-find}
pub use Rattle.sm_names.proofs.SamenessLaws.{and_left, and_right, both_tests, both_ways, either_way, or_cases, or_left, or_none_left}
pub use Rattle.sm_names.proofs.SamenessLaws.{or_none_right, or_right, same_key-refl, same_key-true, some-injective}
pub use Rattle.sm_names.specs.Births.{AreSound, Birth, ancestors, births, is_at_or_below}
pub use Rattle.sm_names.specs.Bounds.{Bound}
pub use Rattle.sm_names.specs.Demands.{Demand}
pub use Rattle.sm_names.specs.Forced.{forced, outcome}
pub use Rattle.sm_names.specs.Handles.{names}
pub use Rattle.sm_names.specs.Kept.{is_kept}
pub use Rattle.sm_names.specs.Losses.{blocked, gone, parent_of, top}
pub use Rattle.sm_names.specs.Marks.{Called, Entry, Loss, Mark, Timeline}
pub use Rattle.sm_names.specs.Members.{Member, asked}
pub use Rattle.sm_names.specs.Pages.{has_room, least_start, meets, pages_of, places}
pub use Rattle.sm_names.specs.Sameness.{same_key}
pub use Rattle.sm_names.specs.Timelines.{next_forced, own_loss, settled, timeline}
pub use Rattle.sm_names.specs.Words.{when}
pub use Rattle.sm_names.specs.declared.keys.BufferName.{BufferName}
pub use Rattle.sm_names.specs.declared.keys.HeldBuffer.{HeldBuffer}
pub use Rattle.sm_names.specs.declared.keys.Interval.{Interval}
pub use Rattle.sm_names.specs.declared.keys.NodeKey.{NodeKey}
pub use Rattle.sm_names.specs.declared.keys.Strength.{Strength}
pub use Rattle.sm_names.specs.declared.messages.Call.{Call}
pub use Rattle.sm_names.specs.declared.messages.Reply.{Reply}
pub use Rattle.sm_names.specs.declared.outcomes.Buffers.{Buffers}
pub use Rattle.sm_names.specs.declared.outcomes.Cause.{Cause}
pub use Rattle.sm_names.specs.declared.outcomes.Failure.{Failure}
pub use Rattle.sm_names.specs.declared.outcomes.Fault.{Fault}
pub use Rattle.sm_names.specs.declared.rules.TheConstants.{MAX_CAMPING}
