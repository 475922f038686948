-- The names that several proofs of this crate cite, passed on from one place. Declares nothing.
pub use Rattle.std.proofs.Common.{Bool, List, None, Ok, Option, [], ap, arith, get_or, inl, inr, length, map, option_map, refl, subst}
pub use Rattle.std.proofs.Common.{sym, take, true, ℕ, ◌+◌, ◌<◌, ◌∙◌, ◌∷◌, ◌≡◌, ◌≤◌}
pub use Rattle.std.proofs.lemmas.List.{take_all, take_more}
pub use Rattle.std.specs.List.{list_any}
pub use Rattle.actor_plays.specs.Fates.{fault_fallen}
pub use Rattle.actor_plays.specs.Leaves.{vanish_of}
pub use Rattle.actor_plays.specs.Plays.{Stage, stage_of}
pub use Rattle.actor_plays.specs.declared.actor.Actor.{Actor}
pub use Rattle.actor_plays.specs.declared.falls.GoneNode.{GoneNode}
pub use Rattle.actor_scripts.specs.Tables.{known}
pub use Rattle.alike_cores.specs.Renamed.{buffer_renamed}
pub use Rattle.alike_plays.specs.Actors.{AreAlikeStages, made_of, made_renamed, object_renamed, place_renamed}
pub use Rattle.alike_plays.specs.Ahead.{ahead_of}
pub use Rattle.alike_plays.specs.AlikePlays.{AreAlikeAll}
pub use Rattle.alike_plays.specs.Falls.{fall_renamed}
pub use Rattle.core_likeness.proofs.Swapping.{ids-apart, keys-apart}
pub use Rattle.core_likeness.specs.Naming.{new_id, new_key, new_number}
pub use Rattle.sm_names.proofs.ListLaws.{In-get_or, In-list_any}
pub use Rattle.sm_names.specs.Elements.{In}
pub use Rattle.sm_names.specs.Sameness.{same_key}
pub use Rattle.sm_names.specs.declared.keys.BufferName.{BufferName}
pub use Rattle.sm_names.specs.declared.keys.NodeKey.{NodeKey}
