-- The names that several proofs of this crate cite, passed on from one place. Declares nothing.
pub use Rattle.std.proofs.Common.{Bool, List, None, Option, Some, [], ap, arith, false, if◌then◌else◌, length, map, refl, subst, sym}
pub use Rattle.std.proofs.Common.{take, true, ℕ, ◌++◌, ◌+◌, ◌-◌, ◌<◌, ◌==◌, ◌∙◌, ◌∷◌, ◌≡◌}
pub use Rattle.std.proofs.lemmas.List.{append-nil}
pub use Rattle.std.specs.Int.{bit_at}
pub use Rattle.std.specs.List.{list_any}
pub use Rattle.std.specs.Map.{keys_of, lookup}
pub use Rattle.std.specs.Option.{option_and_then, option_map}
pub use Rattle.actor_scripts.specs.ActorLists.{Reading, script_actors_from, seen}
pub use Rattle.actor_scripts.specs.ActorStates.{Known, with_objects}
unfoldable pub use Rattle.actor_scripts.specs.ActorStates.{handles_from}
pub use Rattle.actor_scripts.specs.Reads.{IsScriptFault}
pub use Rattle.actor_scripts.specs.Tables.{known}
pub use Rattle.actor_scripts.specs.declared.object.ActorObject.{ActorObject}
pub use Rattle.actor_scripts.specs.declared.object.StepCall.{StepCall}
pub use Rattle.actor_scripts.specs.declared.step.Step.{Step}
pub use Rattle.sm_names.specs.Sameness.{same_key}
pub use Rattle.sm_names.specs.declared.keys.BufferName.{BufferName}
pub use Rattle.sm_names.specs.declared.keys.Strength.{Strength}
pub use Rattle.sm_names.specs.declared.rules.TheConstants.{MAX_BUFFERS}
