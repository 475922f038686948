-- The names that several proofs of this crate cite, passed on from one place. Declares nothing.
pub use Rattle.std.proofs.Common.{All, AllPairs, Bool, Contains, IsSome, List, None, Option, Some, [], ap, arith, cond, count_by, false}
pub use Rattle.std.proofs.Common.{get_or, inl, inr, is_some, length, refl, slice_index_or, subst, suc, sym, take, true, zero, ℕ, ◌++◌}
pub use Rattle.std.proofs.Common.{◌+◌, ◌-◌, ◌<◌, ◌==◌, ◌↔◌, ◌∙◌, ◌∷◌, ◌≡◌, ◌≢◌, ◌≤◌, ◌⊎◌}
pub use Rattle.std.proofs.lemmas.Grind.{common_steps}
pub use Rattle.std.proofs.lemmas.List.{length-append}
pub use Rattle.std.proofs.lemmas.List.Elements.{All-append, Contains-get_or}
pub use Rattle.std.proofs.lemmas.List.Sums.{sum_by-cons}
pub use Rattle.std.specs.List.{flat_map}
pub use Rattle.failure_domains.specs.Falls.{blocked_at, children_within, links_climbed, way_up}
pub use Rattle.failure_domains.specs.Walks.{Climb, IsWalk, Start, Step}
pub use Rattle.node_table.proofs.Depths.{row-then}
pub use Rattle.node_table.specs.Forest.{IsForest, depth_at}
pub use Rattle.node_table.specs.Table.{Table, children_at, next_at, parent_at, row_at, table_len}
pub use Rattle.sm_names.specs.Losses.{Origin, Reach, Up}
pub use Rattle.sm_names.specs.declared.keys.NodeKey.{NodeKey}
