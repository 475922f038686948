-- The names that several proofs of this crate cite, passed on from one place. Declares nothing.
pub use Rattle.std.proofs.Common.{Bool, List, None, Some, [], add-one, ap, append-nil, append_assoc, arith, drop, get_or, length}
pub use Rattle.std.proofs.Common.{length-drop, length-take, map, suc, sym, take, take-suc, ℕ, ◌++◌, ◌+◌, ◌<◌, ◌∙◌, ◌≡◌, ◌≤◌}
pub use Rattle.std.proofs.lemmas.Grind.{common_steps}
pub use Rattle.std.proofs.lemmas.List.{flat_map_more, take_rest}
pub use Rattle.std.proofs.lemmas.Result.{on_ok_weaker}
pub use Rattle.std.specs.List.{flat_map, position}
pub use Rattle.explore_model.specs.Outcomes.{ends_of}
pub use Rattle.outcome_texts.specs.Calls.{calls_from}
pub use Rattle.outcome_texts.specs.ClaimLines.{claim_text_of, claim_texts_from, may_vanish, texts_in}
pub use Rattle.outcome_texts.specs.Facts.{any_below, count_below}
pub use Rattle.outcome_texts.specs.Leaves.{label_told}
pub use Rattle.outcome_texts.specs.Lines.{number_and_line, steps_from, steps_in}
pub use Rattle.outcome_texts.specs.Plays.{joins_text}
pub use Rattle.outcome_texts.specs.declared.calls.PlayCall.{PlayCall}
pub use Rattle.script_lines.proofs.Piecing.{ends_found, is_end, unended_none}
pub use Rattle.script_lines.specs.ClientLists.{is_among}
pub use Rattle.script_lines.specs.Pieces.{whole_lines}
pub use Rattle.script_lines.specs.declared.TheConstants.{MOST_BYTES}
pub use Rattle.script_lines.specs.declared.label.Label.{Label}
pub use Rattle.sm_names.specs.Marks.{Entry}
pub use denote.Ref.{Bor}
