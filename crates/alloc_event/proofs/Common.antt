-- The names that several proofs of this crate cite, passed on from one place. Declares nothing.
pub use Rattle.std.proofs.Common.{Bool, Err, List, None, Ok, Option, Result, Some, [], ap, arith, cond, false, get_or, inl, inr, is_some}
pub use Rattle.std.proofs.Common.{length, map, not, option_map, refl, set, subst, suc, sym, true, zero, ℕ, ◌++◌, ◌+◌, ◌<◌, ◌==◌, ◌||◌}
pub use Rattle.std.proofs.Common.{◌∙◌, ◌∷◌, ◌≡◌, ◌≢◌}
pub use Rattle.std.proofs.lemmas.Bool.{eqb-false, eqb-true, false≢true}
pub use Rattle.std.proofs.lemmas.List.{get_or_default}
pub use Rattle.std.specs.List.{AllByRecursion, filter, find, list_all}
pub use Rattle.std.specs.Option.{option_map_or}
pub use Rattle.buffer_holds.specs.Counts.{total}
pub use Rattle.buffer_pool.specs.Holdings.{Holdings}
pub use Rattle.forest_steps.proofs.changes.Dropped.{one_entry}
pub use Rattle.forest_steps.proofs.mid_event.GivenKept.{forest_after}
pub use Rattle.forest_steps.proofs.mid_event.Stepping.{begins_at, few_there, may_finish, outcome_there, pool_there, row_there}
pub use Rattle.forest_steps.specs.EventEnd.{Closes, MayClose}
pub use Rattle.forest_steps.specs.MidEvent.{PropagatedFrom}
pub use Rattle.forest_steps.specs.StoreSteps.{IsOutcomeAt, IsReadyAt}
pub use Rattle.forest_store.proofs.changes.Altering.{found_whole}
pub use Rattle.forest_store.proofs.lists.Lookups.{looked-kept}
pub use Rattle.forest_store.proofs.newborns.Newborn.{before_is}
pub use Rattle.forest_store.proofs.rows.Entries.{none_in, place_is, read_through}
pub use Rattle.forest_store.proofs.rows.Showing.{collection_is, collection_none, node_is, nodes_of_all, row_found}
pub use Rattle.forest_store.proofs.tables.TakingOut.{SameKeys-shown}
pub use Rattle.forest_store.specs.Calm.{AreCounted, IsForest}
pub use Rattle.forest_store.specs.CollectionRows.{AreRising, CollectionRow, Finishes, Gives, IsStored, all_keys, are_filed, collection_in}
pub use Rattle.forest_store.specs.CollectionRows.{forest_of, is_filed, nodes_with, place_in, row_of, rows_of}
pub use Rattle.forest_store.specs.Counts.{AreUnits}
pub use Rattle.forest_store.specs.Dropped.{are_others_out}
pub use Rattle.forest_store.specs.Forest.{Collection, collection_at, is_left, on_collections, with_nodes, without_unkept_in}
pub use Rattle.forest_store.specs.Given.{AreServedByGiven}
pub use Rattle.forest_store.specs.Nodes.{is_of, is_unkept, with_end}
pub use Rattle.forest_store.specs.Settling.{Handles, Settled, collection_or_new, with_birth}
pub use Rattle.forest_store.specs.declared.change.Change.{Change}
pub use Rattle.forest_store.specs.declared.entry.Entry.{Entry}
pub use Rattle.forest_store.specs.declared.node.End.{End}
pub use Rattle.forest_store.specs.declared.node.Node.{Node}
pub use Rattle.forest_store.specs.declared.unit_counts.Unit.{Unit}
pub use Rattle.node_table.proofs.Keys.{same_key-equal}
pub use Rattle.node_table.specs.Changes.{Writes}
pub use Rattle.node_table.specs.Lending.{table_with_node}
pub use Rattle.node_table.specs.Table.{Table, node_at}
pub use Rattle.sm_names.proofs.SamenessLaws.{and_left, and_right, either_way, same_key-true, some-injective, some_is}
pub use Rattle.sm_names.specs.Sameness.{same_key}
pub use Rattle.sm_names.specs.Words.{sorted_by}
pub use Rattle.sm_names.specs.declared.keys.HeldBuffer.{HeldBuffer}
pub use Rattle.sm_names.specs.declared.keys.NodeKey.{NodeKey}
