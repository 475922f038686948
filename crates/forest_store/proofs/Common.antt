-- The names that the proofs of this crate cite, passed on from one place. Declares nothing.
pub use Rattle.std.proofs.Common.{Bool, Err, IfOk, IfSome, IsSome, List, None, Ok, Option, Result, Some, [], ap}
pub use Rattle.std.proofs.Common.{append_assoc, arith, cond, drop, false, get_or, if◌then◌else◌, inl, inr, is_none}
pub use Rattle.std.proofs.Common.{is_some, length, map, max, nat_le, nat_lt, not, option_map, refl, reverse, rules, set}
pub use Rattle.std.proofs.Common.{slice_index_or, subst, suc, sym, take, true, zero, ℕ, ◌&&◌, ◌++◌, ◌+◌, ◌-◌, ◌<◌, ◌==◌}
pub use Rattle.std.proofs.Common.{◌||◌, ◌∙◌, ◌∷◌, ◌≡◌, ◌≢◌, ◌≤◌, ◌⊎◌, Contains, ◌↔◌, vec_len, ◌*◌, OnErr, option_copied}
pub use Rattle.std.proofs.lemmas.Bool.{cases_eq, cases_lt, eq-eqb, eqb-false, eqb-true, false≢true, le-ltb, leb-true}
pub use Rattle.std.proofs.lemmas.Bool.{lt-ltb, ltb-false, ltb-true, ne_eqb, not-true, not_from_false, not-false, le-leb}
pub use Rattle.std.specs.List.{AllByRecursion, AllPairs, cons_option, filter, filter_map, find, flat_map, fold}
pub use Rattle.std.specs.List.{insert, list_all, list_any, remove, slice_get, sum_by, copy_within, prefix_len}
pub use Rattle.std.specs.Option.{option_and_then, option_map_or, unwrap_or, MatchOption, option_or}
pub use Rattle.sm_names.proofs.ListLaws.{In, In-append, In-behind, In-front, In-filter, In-filter-back, In-find, In-get_or}
pub use Rattle.sm_names.proofs.ListLaws.{In-list_any, In-map, In-map-back, In-reverse, In-reverse-back, filter-In, filter-list_all}
pub use Rattle.sm_names.proofs.ListLaws.{list_all-filter, map-In, times-append, times-le-length, times-zero, filter-swap}
pub use Rattle.sm_names.proofs.ListLaws.{filter-all, is_some-find, none-find, find-none, list_any-map, all_on, In-any, filter-less}
pub use Rattle.sm_names.proofs.SamenessLaws.{and_both, and_left, and_right, both_ways, either_way, false_if, none_is, or_both, or_cases}
pub use Rattle.sm_names.proofs.SamenessLaws.{or_false, or_left, or_none_left, or_none_right, or_parts, or_right, same_key-refl}
pub use Rattle.sm_names.proofs.SamenessLaws.{same_key-true, some-injective, same_key-comm, none_or_some, both_tests, map-None}
pub use Rattle.sm_names.specs.Demands.{Demand}
pub use Rattle.sm_names.specs.Forced.{Standing, abandoned, ending, forced, is_allocated, is_deserted, is_next_head}
pub use Rattle.sm_names.specs.Forced.{logical_allocation, logical_failure, outcome, initial_allocation, initial_failure}
pub use Rattle.sm_names.specs.Sameness.{same_key}
pub use Rattle.sm_names.specs.Words.{first_some, insert_by, sorted_by, times, when}
pub use Rattle.sm_names.specs.declared.keys.HeldBuffer.{HeldBuffer}
pub use Rattle.sm_names.specs.declared.keys.Interval.{Interval}
pub use Rattle.sm_names.specs.declared.keys.NodeKey.{NodeKey}
pub use Rattle.sm_names.specs.declared.outcomes.Buffers.{Buffers}
pub use Rattle.sm_names.specs.declared.outcomes.Cause.{Cause}
pub use Rattle.node_table.specs.Table.{Row, Table, children_at, next_at, node_at, parent_at}
pub use Rattle.node_table.specs.Table.{parent_in, row_at, table_len, was_given, children_in}
pub use Rattle.forest_store.specs.Calm.{AreCounted, IsCounted, IsQuiescent, unkept_except, put_in, strong_count, AreCountedExcept}
pub use Rattle.forest_store.specs.Counts.{AreUnits, AreUnitsExcept, HasUnit, HasUnits, hangs_in, head_above, heads_below}
pub use Rattle.forest_store.specs.Counts.{is_unready, lives_in, no_unit, counted_both, counted_own, unit_at, unit_of, waits_in, Extends}
pub use Rattle.forest_store.specs.Counts.{HaveUnits, decrement_if, increment_if, head_of, counted_above, with_below}
pub use Rattle.forest_store.specs.Decisions.{Allocates, Decision, Ends, Loses, Places, decided, early_failure}
pub use Rattle.forest_store.specs.Decisions.{first_step, has_strong, is_left_of, late_failure, later_step}
pub use Rattle.forest_store.specs.Decisions.{waiting, wanted_by, decisions, mark_of, IsStep, has_waiting}
pub use Rattle.forest_store.specs.Forest.{Collection, all_held, collection_at, is_left, pages_in, tidied, with_nodes, without_unkept_in}
pub use Rattle.forest_store.specs.Forest.{SameKeys as SameForest, node_at as forest_node, all_nodes, beside, summary_of, Forest}
pub use Rattle.forest_store.specs.CollectionRows.{AreKin, AreRising, Bears, IsStored, IsWhole, CollectionRow, Stores, all_keys, all_of}
pub use Rattle.forest_store.specs.CollectionRows.{are_apart, are_filed, born, collection_in, forest_of, is_filed, is_strong}
pub use Rattle.forest_store.specs.CollectionRows.{named, nodes_with, place_in, put_row, row_of, rows_of, stored, written}
pub use Rattle.forest_store.specs.CollectionRows.{TakesOut as Leaves, loses_left, IsHung, AreHeadsGiven, Gives, SameTable}
pub use Rattle.forest_store.specs.Nodes.{above_among, affected, after_allocation, after_effect, given_buffers}
pub use Rattle.forest_store.specs.Nodes.{is_of, is_unkept, is_spent, is_taken, lost, member_of, members_of}
pub use Rattle.forest_store.specs.Nodes.{new_child, new_root, node_of, after_end, after_loss, with_end}
pub use Rattle.forest_store.specs.Questions.{demands_of, has_buffers, is_allocated_node, is_below, is_deserted_node}
pub use Rattle.forest_store.specs.Questions.{is_live_node, is_next_node, is_ready_node, is_root_left, lives_below, is_in_unit}
pub use Rattle.forest_store.specs.Reserved.{camped, reserved_count}
pub use Rattle.forest_store.specs.Scenes.{IsSound, are_distinct, heads_itself, pages_held}
pub use Rattle.forest_store.specs.Scenes.{is_held_strongly, is_out, has_tracker_room, given_few, by_page}
pub use Rattle.forest_store.specs.Settling.{Forces, Handles, MayChange, Rests, Settles, changed, collection_or_new, has_collection}
pub use Rattle.forest_store.specs.Settling.{is_birth, is_root_of, is_there, made, no_key, put, standing, with_birth, fits}
pub use Rattle.forest_store.specs.Ties.{are_rooted, hangs_on, IsTied, FitsChange}
pub use Rattle.forest_store.specs.Units.{GoTogether, are_united, is_head, shares_unit, is_parent}
pub use Rattle.forest_store.specs.declared.change.Change.{Change}
pub use Rattle.forest_store.specs.declared.change.Effect.{Effect}
pub use Rattle.forest_store.specs.declared.entry.Entry.{Entry}
pub use Rattle.forest_store.specs.declared.node.Node.{Node}
pub use Rattle.forest_store.specs.declared.unit_counts.Unit.{Unit}
pub use Rattle.forest_store.specs.Unkept.{AreMore, IsBareAt, IsForgettable, IsLeftIn, IsNotedIn, IsNoting, IsThinned}
pub use Rattle.forest_store.specs.Unkept.{TakesOut, is_bare, is_found, is_left_by, is_own_if_unkept, left_at}
pub use Rattle.forest_store.specs.Unkept.{thin_in, thinned, unless_unkept, without_bare, IsChild, Unlinks, IsPlace}
pub use Rattle.forest_store.specs.Keys.{Listed}
pub use Rattle.forest_store.specs.LossMarks.{gone_by, lowered, uncounted_above, uncounted_both, uncounted_own, without_below, without_node}
pub use Rattle.forest_store.specs.Still.{no_row, row_before, row_with}
pub use Rattle.forest_store.specs.Unforced.{bit, IsOpen, MayAffect, is_plain}
pub use Rattle.forest_store.specs.declared.loss_marks.RemovalKind.{RemovalKind}
pub use Rattle.node_table.proofs.Keys.{key_cases, same_key-apart, same_key-equal, false-same_key}
pub use Rattle.node_table.specs.Changes.{SameKeys, Writes, at_parent, with_node, Cuts, Removes}
pub use Rattle.node_table.specs.Changes.{without_child, without_parent, Births, with_child}
pub use Rattle.node_table.specs.Lending.{table_with_node}
pub use Rattle.sm_names.proofs.ChainLaws.{IsChain, climbs, descends, top_on}
pub use Rattle.sm_names.proofs.ForcedLaws.{AtRest}
pub use Rattle.sm_names.specs.Marks.{Allocated, Called, Ended, Loss, Mark}
pub use Rattle.sm_names.specs.Members.{Member, demands, is_live, is_ready, is_root, is_settled, is_under, reserved}
pub use Rattle.sm_names.specs.Members.{root_left, some_live, some_strong_live, subtree, unit, greatest, wanted, asked}
pub use Rattle.sm_names.specs.declared.outcomes.Failure.{Failure}
pub use Rattle.sm_names.specs.declared.rules.TheConstants.{MAX_BUFFERS, MAX_NODE_TRACKERS}
pub use Rattle.std.proofs.Math.Bool.{and-false, or-true, or-false, or_assoc, and-true}
pub use Rattle.std.proofs.lemmas.Fn.{filter_same}
pub use Rattle.std.proofs.lemmas.Grind.{common_steps, flat_map-append}
pub use Rattle.std.proofs.lemmas.List.{get_or-set_other, get_or-set_same, get_or_default, get_or_past, length-append, length-set}
pub use Rattle.std.proofs.lemmas.List.{map-append, reverse-append, take_all, drop-drop, drop_at, length-take-le, take-append-drop}
pub use Rattle.std.proofs.lemmas.List.{drop_more, drop_all, take_more, nil_from_length, append-nil, length-reverse}
pub use Rattle.std.proofs.lemmas.List.Elements.{filter-append, filter_map-append, All-from_recursion}
pub use Rattle.std.proofs.lemmas.List.Folds.{list_any-append, list_all-append, find-append}
pub use Rattle.std.proofs.lemmas.List.Sorted.{answers_always, IsNonDecreasingBy-from_sort}
pub use Rattle.std.proofs.lemmas.List.Sorted.{IsPartitionedBy-ltb, IsPartitionPoint-from_clause}
pub use Rattle.std.specs.List.Sorted.{IsNonDecreasingBy, IsPartitionPoint, ties, IsSortedByKey, IsStableByKey}
pub use Rattle.std.proofs.lemmas.Option.{slice_get-get_or, gets}
pub use Rattle.buffer_pool.specs.Holdings.{with_buffers, with_interval, in_order}
