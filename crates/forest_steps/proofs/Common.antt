-- The names that several proofs of this crate cite, passed on from one place. Declares nothing.
pub use Rattle.std.proofs.Common.{Bool, Contains, Err, IsSome, List, None, Ok, Option, Result, Some, [], ap, append_assoc, arith, cond}
pub use Rattle.std.proofs.Common.{drop, false, get_or, if◌then◌else◌, inl, inr, is_none, is_some, length, map, max, nat_lt, not}
pub use Rattle.std.proofs.Common.{option_copied, option_map, refl, reverse, rules, set, slice_get, subst, suc, sym, take, true}
pub use Rattle.std.proofs.Common.{vec_capacity, zero, ℕ, ◌&&◌, ◌*◌, ◌++◌, ◌+◌, ◌-◌, ◌<◌, ◌==◌, ◌||◌, ◌↔◌, ◌∙◌, ◌∷◌, ◌≡◌, ◌≢◌, ◌≤◌, ◌⊎◌}
pub use Rattle.std.proofs.lemmas.Bool.{eq-eqb, eqb-false, eqb-true, le-ltb, lt-ltb, ltb-false, not-true}
pub use Rattle.std.specs.List.{AllByRecursion, cons_option, filter, filter_map, find}
pub use Rattle.std.specs.List.{flat_map, fold, list_all, list_any, range_with_len, sum_by}
pub use Rattle.std.specs.Option.{option_and_then, option_map_or, unwrap_or}
pub use Rattle.sm_names.proofs.ListLaws.{In, In-filter, In-filter-back, In-find, In-get_or, In-list_any, In-map, In-map-back}
pub use Rattle.sm_names.proofs.ListLaws.{In-reverse, In-reverse-back, filter-list_all, list_any-map, map-In, when-Some, all_on, In-any}
pub use Rattle.sm_names.proofs.SamenessLaws.{and_both, and_left, and_right, both_ways, either_way, false_if, or_both, or_cases}
pub use Rattle.sm_names.proofs.SamenessLaws.{or_false, or_first, or_left, or_none_left, or_none_right, or_right, same_key-comm}
pub use Rattle.sm_names.proofs.SamenessLaws.{same_key-refl, same_key-true, some-injective, same_buffer-true, none_if}
pub use Rattle.sm_names.specs.Demands.{Demand}
pub use Rattle.sm_names.specs.Forced.{forced, outcome}
pub use Rattle.sm_names.specs.Sameness.{same_key}
pub use Rattle.sm_names.specs.Words.{first_some, sorted_by, times, when}
pub use Rattle.sm_names.specs.declared.keys.HeldBuffer.{HeldBuffer}
pub use Rattle.sm_names.specs.declared.keys.Interval.{Interval}
pub use Rattle.sm_names.specs.declared.keys.NodeKey.{NodeKey}
pub use Rattle.sm_names.specs.declared.outcomes.Buffers.{Buffers}
pub use Rattle.sm_names.specs.declared.outcomes.Cause.{Cause}
pub use Rattle.node_table.proofs.Keys.{same_key-equal}
pub use Rattle.node_table.specs.Table.{Row, Table, node_at, parent_at, row_at, table_len}
pub use Rattle.forest_store.specs.Calm.{AreCounted, AreCountedExcept, IsCounted, unkept_except, strong_count}
pub use Rattle.forest_store.specs.Counts.{AreUnits, HasUnits, HaveUnits, hangs_in, heads_below, is_held_by}
pub use Rattle.forest_store.specs.Counts.{is_unready, lives_in, unit_at, unit_of, unit_then, waits_in}
pub use Rattle.forest_store.specs.Decisions.{Decision, Ends, IsPlacing, Loses, Places, decided, first_step}
pub use Rattle.forest_store.specs.Decisions.{has_strong, is_left_of, late_failure, mark_of, waiting, wanted_by}
pub use Rattle.forest_store.specs.Forest.{Collection, IsPoolOf, all_held, beside, collection_at, pages_in, with_nodes}
pub use Rattle.forest_store.specs.CollectionRows.{AreRising, Finishes, IsStored, IsWhole, CollectionRow, Stores, all_keys}
pub use Rattle.forest_store.specs.CollectionRows.{all_of, collection_in, forest_of, is_filed, is_strong, nodes_with}
pub use Rattle.forest_store.specs.CollectionRows.{place_in, put_row, row_of, rows_of, stored, written}
pub use Rattle.forest_store.specs.Nodes.{above_among, affected, after_allocation, after_effect, after_end, after_loss}
pub use Rattle.forest_store.specs.Nodes.{ended, given_buffers, is_of, is_taken, lost, member_of, members_of, node_of}
pub use Rattle.forest_store.specs.Questions.{demands_of, has_buffers, is_allocated_node, is_below, is_deserted_node}
pub use Rattle.forest_store.specs.Questions.{is_in_unit, is_live_node, is_next_node, is_ready_node, is_root_left}
pub use Rattle.forest_store.specs.Reserved.{camped, reserved_count}
pub use Rattle.forest_store.specs.Scenes.{IsSound, are_distinct, by_page, given_few, heads_itself}
pub use Rattle.forest_store.specs.Scenes.{is_held_strongly, is_out, laid, name_of, pages_held}
pub use Rattle.forest_store.specs.Settling.{Forces, Handles, Rests, Settles, changed, collection_or_new}
pub use Rattle.forest_store.specs.Settling.{given_back, is_birth, is_root_of, made, no_key, put, standing}
pub use Rattle.forest_store.specs.Ties.{IsTied, are_rooted, hangs_on, is_blocking}
pub use Rattle.forest_store.specs.Units.{GoTogether, is_head}
pub use Rattle.forest_store.specs.declared.change.Change.{Change}
pub use Rattle.forest_store.specs.declared.change.Effect.{Effect}
pub use Rattle.forest_store.specs.declared.entry.Entry.{Entry}
pub use Rattle.forest_store.specs.declared.node.Node.{Node}
pub use Rattle.forest_store.specs.declared.unit_counts.Unit.{Unit}
pub use Rattle.buffer_holds.specs.Counts.{total}
pub use Rattle.buffer_pool.specs.Holdings.{Holdings, in_order, with_buffers}
pub use Rattle.failure_domains.specs.Falls.{Below, Top, Within, blocked_at, stopped_at}
pub use Rattle.forest_store.proofs.allocation.Allocated.{after_all, losing}
pub use Rattle.forest_store.proofs.allocation.Before.{IsBareHead, key_listed, node_there}
pub use Rattle.forest_store.proofs.allocation.Next.{head_own}
pub use Rattle.forest_store.proofs.changes.Altering.{found_filed, found_put, found_whole, looked-of, same_affected, tracker_room}
pub use Rattle.forest_store.proofs.changes.Effecting.{alone_affected, decremented, head, live_before, plain_affected}
pub use Rattle.forest_store.proofs.changes.Effecting.{remains_affected, strong_before, unready_before}
pub use Rattle.forest_store.proofs.failures.GoneNodes.{given_of, goes_in, goes_not, goes_of, gone_of, in_looked, same_of}
pub use Rattle.forest_store.proofs.lists.SameIntervals.{parted-in_order, parted-sorted, start_of}
pub use Rattle.forest_store.proofs.quiescence.Calming.{any_map, count_none, find_map, none_calm, times_map}
pub use Rattle.forest_store.proofs.quiescence.Forcing.{forced_made}
pub use Rattle.forest_store.proofs.quiescence.Resting.{still_decided}
pub use Rattle.forest_store.proofs.quiescence.Steps.{all-In, found_by_key}
pub use Rattle.forest_store.proofs.quiescence.Watched.{found_counted, strong_told}
pub use Rattle.forest_store.proofs.rows.Counted.{counted_but, counted_set, rows_put}
pub use Rattle.forest_store.proofs.rows.Entries.{IsPlace, place_is, set_put}
pub use Rattle.forest_store.proofs.rows.Putting.{cases_place, put-map}
pub use Rattle.forest_store.proofs.rows.Showing.{collection_is, node_is, row_found}
pub use Rattle.forest_store.proofs.tables.Hanging.{all_in, in_all, looked_there}
pub use Rattle.forest_store.proofs.tables.LeftParents.{in_row}
pub use Rattle.forest_store.proofs.tables.Rooted.{AreOne, IsLeft, distinct_one, left_in, left_node, left_parent}
pub use Rattle.forest_store.proofs.tables.Writing.{IsSameNode, IsSound-map, kept-with, look-changed, parents-written}
pub use Rattle.forest_store.proofs.tallies.Holding.{above_short}
pub use Rattle.forest_store.proofs.tallies.Reserved.{amount_map, amount_within, camped_sum}
pub use Rattle.forest_store.proofs.tallies.Slots.{all_at, one_row}
pub use Rattle.forest_store.specs.Dropped.{are_rest_out, has_given_root}
pub use Rattle.forest_store.specs.Falls.{AreGrown, Hangs, Roots, given_all}
pub use Rattle.forest_store.specs.LossMarks.{IsTaken, gone_by, uncounted_both}
pub use Rattle.forest_store.specs.Outcomes.{IsOutcomeIn, IsReady, IsSettledIn, changed_in}
pub use Rattle.forest_store.specs.Resting.{is_kept_by}
pub use Rattle.forest_store.specs.Starts.{starts_differ}
pub use Rattle.forest_store.specs.Stores.{StoreAgrees}
pub use Rattle.forest_store.specs.Unforced.{IsOpen, bit, is_plain}
pub use Rattle.forest_store.specs.UnitAllocation.{AreHeads, IsGathered, IsGivenAt, asked_with, given_at, hangs_below}
pub use Rattle.forest_store.specs.UnitAllocation.{has_turn_at, is_head_at, is_in_some, is_ready_head, is_waiting_head}
pub use Rattle.forest_store.specs.declared.loss_marks.RemovalKind.{RemovalKind}
pub use Rattle.node_table.specs.Changes.{Writes}
pub use Rattle.node_table.specs.Forest.{IsForest}
pub use Rattle.node_table.specs.Lending.{table_with_node}
pub use Rattle.sm_names.proofs.ChainLaws.{IsChain}
pub use Rattle.sm_names.specs.Changes.{blocks}
pub use Rattle.sm_names.specs.Handles.{is_home, names}
pub use Rattle.sm_names.specs.Losses.{Reach, Up}
pub use Rattle.sm_names.specs.Marks.{Allocated, Ended, Loss, Mark}
pub use Rattle.sm_names.specs.Members.{Member, greatest, is_under}
pub use Rattle.sm_names.specs.Pages.{pages_of, places}
pub use Rattle.sm_names.specs.declared.keys.BufferName.{BufferName}
pub use Rattle.sm_names.specs.declared.keys.Strength.{Strength}
pub use Rattle.sm_names.specs.declared.outcomes.Failure.{Failure}
pub use Rattle.sm_names.specs.declared.outcomes.Fault.{Fault}
pub use Rattle.std.proofs.Math.Bool.{and-false, or-true}
pub use Rattle.std.proofs.lemmas.List.{at_drop_more, get_or-set_same, get_or_default, length-reverse, reverse-append, set-get_or, set-set}
pub use Rattle.std.proofs.lemmas.List.Folds.{list_any-append}
pub use Rattle.std.proofs.lemmas.Map.Views.{Contains-from_any, list_any-from_Contains}
pub use Rattle.forest_steps.specs.Climbing.{climbed}
pub use Rattle.forest_steps.specs.EventEnd.{Closes, IsClosed, MayClose}
pub use Rattle.forest_steps.specs.InitialAllocation.{IsAllocationOutcome, IsComing, IsPlanned, IsRooted, allocated_with}
pub use Rattle.forest_steps.specs.InitialAllocation.{comes_first, first_made, is_bare_root, is_held_ready, row_then, wants_of}
pub use Rattle.forest_steps.specs.LogicalAllocation.{IsUnitListed, asked_there, is_next_there}
pub use Rattle.forest_steps.specs.MidEvent.{AfterEffect, AfterLoss, AfterPropagation, AfterRemoval, AfterSteps, AreClosed}
pub use Rattle.forest_steps.specs.MidEvent.{AreOrEnd, ArePlacedIfThere, AreTurns, EffectMade, IsBeside, MayGo, MidEvent}
pub use Rattle.forest_steps.specs.MidEvent.{PropagatedFrom, Reaches, are_held_except, hangs_in_some, holds_unit, is_abandoned_in}
pub use Rattle.forest_steps.specs.MidEvent.{is_coming, is_head_left, is_held, is_next_except, turn_heads, waits_among}
pub use Rattle.forest_steps.specs.NodeEffects.{AreCounts, AreCountsThen, KeepsCounts, may_force, strong_then}
pub use Rattle.forest_steps.specs.Refusing.{refusal}
pub use Rattle.forest_steps.specs.Removal.{IsGoneSo, head_over}
pub use Rattle.forest_steps.specs.Runs.{rest_of}
pub use Rattle.forest_steps.specs.StoreSteps.{IsOutcomeAt, IsReadyAt}
pub use Rattle.forest_steps.specs.declared.demand.TotalDemand.{TotalDemand}
pub use Rattle.forest_steps.specs.declared.initial_allocation.AllocationOutcome.{AllocationOutcome}
pub use Rattle.forest_steps.specs.declared.node_effect.EffectCounts.{EffectCounts}
pub use Rattle.forest_steps.specs.declared.pending_units.PendingUnit.{PendingUnit}
pub use Rattle.forest_store.proofs.changes.Finishing.{kept-put}
pub use Rattle.forest_store.proofs.failures.Written.{went_now}
pub use Rattle.forest_store.proofs.lists.ByPage.{any_sorted}
pub use Rattle.forest_store.proofs.lists.Lookups.{looked-map}
pub use Rattle.forest_store.proofs.quiescence.Keeping.{below_held, either_holds, lives_held}
pub use Rattle.forest_store.proofs.tables.Chains.{one_line}
pub use Rattle.forest_store.proofs.tallies.CountedAbove.{below_mapped, hangs_mapped}
pub use Rattle.forest_store.specs.Given.{IsServedByGiven}
pub use Rattle.sm_names.specs.Timelines.{laid_out}
pub use Rattle.sm_names.specs.declared.rules.TheConstants.{MAX_CAMPING}
