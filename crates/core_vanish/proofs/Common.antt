-- The names that several proofs of this crate cite, passed on from one place. Declares nothing.
pub use Rattle.std.proofs.Common.{Bool, Err, List, None, Ok, Option, Result, Some, [], ap, append_assoc, arith, cond, false, inl, inr}
pub use Rattle.std.proofs.Common.{is_some, length, length-append, not, refl, subst, sym, true, ℕ, ◌&&◌, ◌++◌, ◌+◌, ◌-◌, ◌<◌, ◌==◌, ◌||◌}
pub use Rattle.std.proofs.Common.{◌∙◌, ◌∷◌, ◌≡◌, ◌≤◌}
pub use Rattle.std.proofs.lemmas.Bool.{eq-eqb, eqb-true, false≢true}
pub use Rattle.std.proofs.lemmas.List.{append-nil}
pub use Rattle.std.proofs.lemmas.List.Elements.{All-append, All-nil, All-push}
pub use Rattle.std.proofs.lemmas.Result.{on_err_weaker, on_ok_weaker}
pub use Rattle.std.specs.List.{All, cons_option, list_any, sum_by}
pub use Rattle.std.specs.Option.{option_map_or}
pub use Rattle.std.specs.Result.{IfErr, IfOk, OnErr}
pub use Rattle.core_state.specs.Reads.{readings_of}
pub use Rattle.core_state.specs.Shown.{ShowsBut, recalling}
pub use Rattle.core_state.specs.State.{State}
pub use Rattle.core_vanish.specs.Events.{Collecting, Collects, Gathered, GetsNothing, IsShut, Leaving, Lets, Whatever}
pub use Rattle.core_vanish.specs.Phases.{HasAmong, HasLeft, HoldsAmong, IsUnshut, Phase, part_fault}
pub use Rattle.core_vanish.specs.Vanishes.{HasVanished, IsClose, IsCollect, IsDrop, holds_end}
pub use Rattle.core_vanish.specs.Vanishing.{AdvancesBy, IsBegun}
pub use Rattle.core_vanish.specs.declared.vanishing.VanishFault.{VanishFault}
pub use Rattle.event_laws.proofs.EndEventLaws.{born_event, holder_event, spent_event}
pub use Rattle.event_laws.proofs.FreeEndLaws.{FreeEnd, passed}
pub use Rattle.event_laws.proofs.HandLaws.{NextEvent, next_event}
pub use Rattle.event_laws.proofs.HandleBufferLaws.{still_joined, stranger_has_none}
pub use Rattle.event_laws.proofs.HandleEventLaws.{open_of_event}
pub use Rattle.event_laws.proofs.ParcelEventLaws.{collected_event, idle_event, shut_event}
pub use Rattle.event_laws.specs.ByEvent.{GoesBy, collected_at, entry_mark, gains, loses, one_if, only}
pub use Rattle.forest_store.specs.Forest.{all_nodes, held_by_page}
pub use Rattle.forest_store.specs.declared.node.Node.{Node}
pub use Rattle.history_laws.proofs.AnswerLaws.{took_effect_all}
pub use Rattle.history_laws.proofs.BirthLaws.{birth_is}
pub use Rattle.history_laws.proofs.CountLaws.{counted}
pub use Rattle.history_laws.proofs.GrowthLaws.{Grows, legal_grows}
pub use Rattle.history_laws.proofs.TakeLaws.{none_key}
pub use Rattle.sm_names.proofs.ListLaws.{In-any, In-list_any, is_some-find, when-Some}
pub use Rattle.sm_names.proofs.SamenessLaws.{and_both, and_left, and_right, both_ways, either_way, false_if, or_first, or_right}
pub use Rattle.sm_names.proofs.SamenessLaws.{same_key-true, some_is}
pub use Rattle.sm_names.specs.Answers.{IsAnswer, OpenEnd}
pub use Rattle.sm_names.specs.Births.{Birth, birth_at, birth_of, births, was_born}
pub use Rattle.sm_names.specs.Bounds.{Bound}
pub use Rattle.sm_names.specs.Ends.{collector_at, given_at, has_joined, holder, in_transit, is_end_of, is_shut, parcels, shuts, spent}
pub use Rattle.sm_names.specs.Handles.{open_of, open_total}
pub use Rattle.sm_names.specs.Legality.{IsLegal}
pub use Rattle.sm_names.specs.Marks.{Called, Entry, Timeline, events}
pub use Rattle.sm_names.specs.Reading.{open_end, readings}
pub use Rattle.sm_names.specs.Sameness.{same_buffer, same_key}
pub use Rattle.sm_names.specs.Timelines.{held, timeline}
pub use Rattle.sm_names.specs.declared.keys.BufferName.{BufferName}
pub use Rattle.sm_names.specs.declared.keys.HeldBuffer.{HeldBuffer}
pub use Rattle.sm_names.specs.declared.keys.NodeKey.{NodeKey}
pub use Rattle.sm_names.specs.declared.keys.Strength.{Strength}
pub use Rattle.sm_names.specs.declared.keys.Strength.TheVariants.{Strong, Weak}
pub use Rattle.sm_names.specs.declared.messages.Call.{Call}
pub use Rattle.sm_names.specs.declared.messages.Parcel.{Parcel}
pub use Rattle.sm_names.specs.declared.messages.Reply.{Reply}
pub use Rattle.sm_names.specs.declared.outcomes.Refusal.{Refusal}
pub use Rattle.sm_names.specs.declared.outcomes.StepFault.{StepFault}
pub use Rattle.sm_names.specs.declared.tracking.Fired.{Fired}
