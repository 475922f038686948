-- The names that several proofs of this crate cite, passed on from one place. Declares nothing.
pub use Rattle.std.proofs.Common.{AllPairs, Bool, Contains, IfSome, IsSome, List, None, Option, Some, [], ap, arith, cond, count_by}
pub use Rattle.std.proofs.Common.{false, if◌then◌else◌, inl, inr, is_some, length, map, nat_le, nat_lt, option_map, refl, rules}
pub use Rattle.std.proofs.Common.{slice_index_or, slice_set, subst, suc, sym, true, zero, ℕ, ◌&&◌, ◌++◌, ◌+◌, ◌-◌, ◌<◌, ◌==◌, ◌^◌, ◌∙◌}
pub use Rattle.std.proofs.Common.{◌∷◌, ◌≡◌, ◌≢◌, ◌≤◌, ◌⊎◌}
pub use Rattle.std.proofs.lemmas.Bool.{cases_eq, eqb-true}
pub use Rattle.std.proofs.lemmas.Bool.Decides.{nat_tests}
pub use Rattle.std.proofs.lemmas.Grind.{common_steps}
pub use Rattle.std.proofs.lemmas.List.{length-append}
pub use Rattle.std.proofs.lemmas.List.Elements.{Contains-append_right}
pub use Rattle.std.proofs.lemmas.List.Sums.{sum_by-cons}
pub use Rattle.std.specs.Option.{option_map_or}
pub use Rattle.node_table.specs.Changes.{Births, Cuts, Removes, at_parent, with_child, without_child, without_parent}
pub use Rattle.node_table.specs.Forest.{IsForest, first_key, next_key, siblings_at}
pub use Rattle.node_table.specs.Lending.{table_with_node}
pub use Rattle.node_table.specs.Sound.{Appends, Bumped, Edits, EditsRows, HasEntry, IsLinked, IsRun, IsSound, Joins, LinksLast, at_slot}
pub use Rattle.node_table.specs.Sound.{core_of, entry_in, first_in, given_count, last_in, last_under, link_in, loosened, next_in}
pub use Rattle.node_table.specs.Sound.{parent_of, prev_in, row_in, row_of, rows_of, run_from, run_in, stamp_in, table_in, table_of}
pub use Rattle.node_table.specs.Sound.{unless, with_adopted, with_children, with_first, with_next, with_vacant}
pub use Rattle.node_table.specs.Table.{Row, Table, children_at, children_in, next_at, node_at, parent_at, parent_in, row_at, was_given}
pub use Rattle.node_table.specs.declared.slot.Slot.{Slot}
pub use Rattle.node_table.specs.declared.slot.Slot.TheVariants.{Taken}
pub use Rattle.node_table.specs.declared.slot.SlotEntry.{SlotEntry}
pub use Rattle.slab.specs.Slab.{Slab, get}
pub use Rattle.sm_names.specs.Sameness.{same_key}
pub use Rattle.sm_names.specs.declared.keys.NodeKey.{NodeKey}
