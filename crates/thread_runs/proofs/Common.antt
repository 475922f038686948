-- The names that several proofs of this crate cite, passed on from one place. Declares nothing.
pub use Rattle.std.proofs.Common.{Bool, List, None, Option, Some, [], ap, append-nil, append_assoc, arith, false, if◌then◌else◌, inl, inr}
pub use Rattle.std.proofs.Common.{is_some, length, length-append, map, nat_le, nat_lt, refl, slice_get, subst, suc, sym, true, zero, ℕ}
pub use Rattle.std.proofs.Common.{◌&&◌, ◌++◌, ◌+◌, ◌-◌, ◌<◌, ◌==◌, ◌||◌, ◌∙◌, ◌∷◌, ◌≡◌, ◌≤◌}
pub use Rattle.std.proofs.Math.Nat.{eq-or-lt_of_le}
pub use Rattle.std.proofs.lemmas.Bool.{eq-eqb, eqb-true, lt-ltb, ne_eqb}
pub use Rattle.std.proofs.lemmas.List.{length-map, map-append}
pub use Rattle.std.proofs.lemmas.Option.{slice_get-map, slice_get_past}
pub use Rattle.std.proofs.lemmas.Slice.Zip.{AllZip-long}
pub use Rattle.std.specs.Io.KnownBytes.{Appends}
pub use Rattle.std.specs.List.{All, AllZip}
pub use Rattle.std.specs.Option.{option_and_then, option_map, option_map_or}
pub use Rattle.std.specs.Prelude.{flat_map}
pub use Rattle.actor_plays.proofs.MoveLaws.{count_first}
pub use Rattle.actor_plays.proofs.PositionLaws.{done_rests}
pub use Rattle.actor_plays.specs.Leaves.{all_objects}
pub use Rattle.actor_plays.specs.Plays.{Stage, first_clients, first_stage, joins, leaves_by, left, next_step, passed, stage_after}
pub use Rattle.actor_plays.specs.Positions.{Begins, Position, Setup}
pub use Rattle.actor_scripts.specs.ActorLists.{Actors, actors_of}
pub use Rattle.actor_scripts.specs.ActorStates.{Known, new_objects, step_call}
pub use Rattle.actor_scripts.specs.declared.actor_list.ActorList.{ActorList}
pub use Rattle.actor_scripts.specs.declared.object.ActorObject.{ActorObject}
pub use Rattle.actor_scripts.specs.declared.object.StepCall.{StepCall}
pub use Rattle.actor_scripts.specs.declared.step.Step.{Step}
pub use Rattle.alike_plays.proofs.Reaching.{shows_on}
pub use Rattle.client_actors.specs.ActorEnds.{end_id}
pub use Rattle.client_actors.specs.ActorSteps.{HasFinished, holds_by_state, pairs_of}
pub use Rattle.client_actors.specs.declared.gate.ActorEnd.{ActorEnd}
pub use Rattle.client_ends.specs.Clients.{Seen, calls_of, replies_of}
pub use Rattle.client_vanish.specs.Gatherings.{ids_of}
pub use Rattle.client_vanish.specs.Vanishings.{HeldObject, Remains, vanishing_call}
pub use Rattle.client_vanish.specs.declared.fault.GatherFault.{GatherFault}
pub use Rattle.client_vanish.specs.declared.gathering.Holding.{Holding}
pub use Rattle.core_state.specs.Shown.{Shows}
pub use Rattle.core_state.specs.State.{State}
pub use Rattle.core_state.specs.Theorem.{Leads, Makes}
pub use Rattle.event_laws.specs.Members.{joined}
pub use Rattle.event_laws.specs.Parts.{part}
pub use Rattle.event_laws.specs.declared.own.Own.{Own}
pub use Rattle.explore_model.specs.Plans.{planned, steps_of}
pub use Rattle.explore_model.specs.declared.plan.Plan.{Plan}
pub use Rattle.explore_model.specs.declared.plan.Planned.{Planned}
pub use Rattle.explore_model.specs.declared.plan.Waiting.{Waiting}
pub use Rattle.service_lock.specs.Comings.{SomeCoreCame}
pub use Rattle.sm_names.proofs.SamenessLaws.{some-injective}
pub use Rattle.sm_names.specs.Bounds.{Bound}
pub use Rattle.sm_names.specs.Marks.{Entry}
pub use Rattle.sm_names.specs.declared.messages.Call.{Call}
pub use Rattle.sm_names.specs.declared.messages.Reply.{Reply}
pub use Rattle.thread_runs.specs.Company.{first_unfit}
pub use Rattle.thread_runs.specs.Endings.{EndsUntold}
pub use Rattle.thread_runs.specs.Gathered.{IsLate, IsLeft, IsUntold, PartedTo, first_fault, first_stray, line_client}
pub use Rattle.thread_runs.specs.RunPlays.{IsPlayOf, JoinsFirst}
pub use Rattle.thread_runs.specs.Runs.{HasNoReport, HasRunActors, IsNotTold, IsPlayed, IsRead, told_text}
pub use Rattle.thread_runs.specs.declared.fault.ThreadsFault.{ThreadsFault}
pub use Rattle.thread_runs.specs.declared.job.Output.{Output}
