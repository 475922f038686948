-- The names that several proofs of this crate cite, passed on from one place. Declares nothing.
pub use Rattle.std.proofs.Common.{Bool, List, None, Option, Some, [], add-one, ap, append_assoc, arith, false, length, map, refl}
pub use Rattle.std.proofs.Common.{slice_get, slice_set, subst, suc, sym, take, true, zero, ℕ, ◌++◌, ◌+◌, ◌<◌, ◌∙◌, ◌∷◌, ◌≡◌, ◌≤◌}
pub use Rattle.std.proofs.lemmas.Grind.{common_steps}
pub use Rattle.std.proofs.lemmas.List.{flat_map_more, map-append}
pub use Rattle.std.proofs.lemmas.List.Elements.{filter-append}
pub use Rattle.std.specs.List.{flat_map}
pub use Rattle.std.specs.Option.{option_and_then, option_map, option_map_or}
pub use Rattle.std.specs.Prelude.{Err, IfOk, IfSome, Ok, Result, Vec}
pub use Rattle.std.specs.declared.alloc.Global.{Global}
pub use Rattle.actor_plays.specs.Fates.{AreFalls, AreTold, falls_at}
pub use Rattle.actor_plays.specs.Moves.{HasRest, HavePassed, IsOfSetup, position_at, position_of}
pub use Rattle.actor_plays.specs.Plays.{AreJoining, IsLeave, IsPlay, IsTurn, Stage, first_stage, is_wait, joins, leaves_by, left}
pub use Rattle.actor_plays.specs.Plays.{next_step, passed, polls, stage_after, stage_of, stages_of}
pub use Rattle.actor_plays.specs.Positions.{Fell, PassOn, Passes, Position, ReachedBy, Setup}
pub use Rattle.actor_plays.specs.declared.actor.Actor.{Actor}
pub use Rattle.actor_plays.specs.declared.falls.GoneNode.{GoneNode}
pub use Rattle.actor_plays.specs.declared.play.Play.{Play}
pub use Rattle.actor_plays.specs.declared.play.Turned.{Turned}
pub use Rattle.actor_scripts.specs.ActorStates.{step_call}
pub use Rattle.core_state.specs.Shown.{Shows}
pub use Rattle.core_state.specs.State.{State}
pub use Rattle.core_state.specs.Theorem.{Makes}
pub use Rattle.explore_model.specs.Plans.{steps_of}
pub use Rattle.explore_model.specs.declared.found.Turn.{Turn}
pub use Rattle.explore_model.specs.declared.plan.Plan.{Plan}
pub use Rattle.explore_model.specs.declared.plan.Planned.{Planned}
pub use Rattle.forced_marks.specs.Marks.{AreStages}
pub use Rattle.forced_marks.specs.declared.moment.Moment.{Moment}
pub use Rattle.sm_names.specs.declared.messages.Call.{Call}
pub use Rattle.sm_names.specs.declared.messages.Reply.{Reply}
pub use Rattle.sm_names.specs.declared.outcomes.StepFault.{StepFault}
