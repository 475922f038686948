-- The names that several proofs of this crate cite, passed on from one place. Declares nothing.
pub use Rattle.std.proofs.Common.{Bool, List, None, Option, Some, [], ap, append-nil, append_assoc, arith, false, if◌then◌else◌, inl, inr}
pub use Rattle.std.proofs.Common.{length, map, refl, rules, subst, suc, sym, true, vec_len, zero, ℕ, ◌++◌, ◌+◌, ◌<◌, ◌==◌, ◌∙◌, ◌∷◌, ◌≡◌}
pub use Rattle.std.proofs.Common.{◌≤◌}
pub use Rattle.std.proofs.lemmas.List.{map-append}
pub use Rattle.std.proofs.lemmas.List.Elements.{All-cons, All-nil}
pub use Rattle.std.specs.Int.{bit_at}
pub use Rattle.std.specs.List.{All}
pub use Rattle.std.specs.Prelude.{Err, IsSome, Ok, Result, flat_map, is_err}
pub use Rattle.actor_scripts.specs.ActorStates.{Known, new_objects, spends_object, state_after}
unfoldable pub use Rattle.actor_scripts.specs.ActorStates.{handles_from}
pub use Rattle.actor_scripts.specs.Tables.{known}
pub use Rattle.actor_scripts.specs.declared.object.ActorObject.{ActorObject}
pub use Rattle.actor_scripts.specs.declared.object.StepCall.{StepCall}
pub use Rattle.actor_scripts.specs.declared.step.Step.{Step}
pub use Rattle.client_actors.specs.ActorEnds.{CanStart, IsEndThere, id_there}
pub use Rattle.client_actors.specs.ActorSteps.{ActorInvariant, HasFaltered, HasRunSome, HasRunTo, HasStepped, HasTaken, IsAware}
pub use Rattle.client_actors.specs.ActorSteps.{IsWaiting, MakesCall, last_objects_first, objects_in_slots, pairs_of, part_of}
pub use Rattle.client_actors.specs.ObjectCalls.{Did, SlotHeldBy, filled_by, handle_seen, lies, there}
pub use Rattle.client_actors.specs.PatientRuns.{FindsNothing, RunsPatiently}
pub use Rattle.client_actors.specs.declared.actor.Actor.{Actor}
pub use Rattle.client_actors.specs.declared.new_objects.NewObjects.{NewObjects}
pub use Rattle.client_ends.specs.Clients.{Grip, Made, MadeOr, Seen, last_reply}
pub use Rattle.client_ends.specs.declared.held.ParcelContent.{ParcelContent}
pub use Rattle.client_ends.specs.declared.why.Why.{Why}
pub use Rattle.client_vanish.specs.Stacks.{both}
pub use Rattle.client_vanish.specs.Vanishings.{AllHeldBy, held_in, sorted}
unfoldable pub use Rattle.event_laws.specs.HandleSums.{indices_in}
pub use Rattle.sm_names.specs.declared.messages.Call.{Call}
pub use Rattle.sm_names.specs.declared.messages.Reply.{Reply}
pub use Rattle.sm_names.specs.declared.rules.TheConstants.{MAX_BUFFERS}
