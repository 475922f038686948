-- The names that several proofs of this crate cite, passed on from one place. Declares nothing.
pub use Rattle.std.proofs.Common.{Bool, List, None, Option, Some, [], ap, append-nil, append_assoc, arith, cond, false, if◌then◌else◌}
pub use Rattle.std.proofs.Common.{length, map, refl, subst, sym, take, true, ℕ, ◌++◌, ◌+◌, ◌∙◌, ◌∷◌, ◌≡◌}
pub use Rattle.std.proofs.lemmas.List.{nil_from_length}
pub use Rattle.std.proofs.lemmas.Result.{on_ok_weaker}
pub use Rattle.std.specs.List.{flat_map}
pub use Rattle.std.specs.Map.{lookup}
pub use Rattle.std.specs.Option.{IfSome, option_and_then, option_map}
pub use Rattle.std.specs.Prelude.{codes}
pub use Rattle.core_state.specs.Reads.{views_of}
pub use Rattle.event_facts.specs.KeyMaps.{values_at}
pub use Rattle.event_facts.specs.declared.event.Event.{Event}
pub use Rattle.event_texts.specs.Called.{Calls}
pub use Rattle.event_texts.specs.Deeds.{KeptLines, Recalls, RecallsDeeds, same_deed, with_event}
pub use Rattle.event_texts.specs.EventLines.{TellsFacts}
unfoldable pub use Rattle.event_texts.specs.EventLines.{facts_text}
pub use Rattle.event_texts.specs.EventTexts.{between_buffers, camp_text, kept_behind, next_waited, tracker_text}
pub use Rattle.event_texts.specs.FactTexts.{next_holder}
pub use Rattle.event_texts.specs.Failing.{failures, failures_with}
pub use Rattle.event_texts.specs.KeeperTexts.{who_has_with}
pub use Rattle.event_texts.specs.LossTexts.{counted, handed_by, handing_text, name_text, next_above}
pub use Rattle.event_texts.specs.LostLines.{LossLines, NumberedLine, RecallsLosses, kept_line, with_losses}
pub use Rattle.event_texts.specs.MarkTexts.{marks_text, placed_in}
pub use Rattle.event_texts.specs.SummaryTexts.{colon, number_text, waiting_label}
unfoldable pub use Rattle.event_texts.specs.SummaryTexts.{waiting_text}
pub use Rattle.event_texts.specs.declared.deeds.Deed.{Deed}
pub use Rattle.event_texts.specs.declared.event_writer.EventWriter.{EventWriter}
pub use Rattle.event_texts.specs.declared.labels.Labels.{Labels}
pub use Rattle.forced_marks.specs.Marks.{laid_on}
pub use Rattle.forced_marks.specs.declared.moment.Moment.{Moment}
pub use Rattle.script_labels.specs.Names.{Names, act_in}
pub use Rattle.script_labels.specs.Tables.{Keeps}
pub use Rattle.script_labels.specs.Texts.{buffer_text, held_text, member_text, node_text, reply_text}
pub use Rattle.script_labels.specs.declared.act.Act.{Act}
pub use Rattle.sm_names.specs.Bounds.{Bound}
pub use Rattle.sm_names.specs.Marks.{Called, Mark}
pub use Rattle.sm_names.specs.Sameness.{same_key}
pub use Rattle.sm_names.specs.Timelines.{timeline}
pub use Rattle.sm_names.specs.declared.keys.HeldBuffer.{HeldBuffer}
pub use Rattle.sm_names.specs.declared.messages.Call.{Call}
pub use Rattle.sm_names.specs.declared.messages.Reply.{Reply}
pub use Rattle.sm_names.specs.declared.outcomes.Buffers.{Buffers}
pub use Rattle.sm_names.specs.declared.outcomes.Refusal.{Refusal}
pub use Rattle.sm_names.specs.declared.tracking.Fired.{Fired}
pub use Rattle.sm_script.specs.Scenes.{Scene, as_line, next_scene}
pub use Rattle.sm_script.specs.Sessions.{IsAt}
pub use Rattle.sm_script.specs.declared.session.Session.{Session}
