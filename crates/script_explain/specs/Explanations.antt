-- What an explanation of a script leaves.
use Rattle.std.specs.Prelude.{◌≡◌, ◌⊎◌, ℕ, ◌+◌, Bool, true, false, List, [], ◌++◌, length, Option, Result, MatchResult}
use Rattle.script_lines.specs.Pieces.{whole_lines, last_part}
use Rattle.report_io.specs.declared.fault.ReportFault.{ReportFault}
use Rattle.report_io.specs.Faults.{EndsReport, IsWriteFault}
use Rattle.report_io.specs.IndentedLines.{indented, is_indented, unindented}
use Rattle.report_io.specs.Streams.{Reads}
use Rattle.report_io.specs.Takings.{ScriptStops, Writes, WritesFirst}
use Rattle.sm_script.specs.Runs.{IsWhy}
use Rattle.sm_script.specs.Scenes.{LeadsTo, Scene, Setting, first_scene}
use Rattle.core_state.specs.Shown.{Shows}
use Rattle.core_state.specs.State.{State}
use Rattle.event_texts.specs.Deeds.{KeptLines}
use Rattle.event_texts.specs.Failing.{failing_events}
use Rattle.event_texts.specs.SummaryTexts.{summary_text}
use Rattle.script_explain.specs.declared.explain.Scope.{Scope}
use Rattle.script_explain.specs.ExplainedLines.{ExplainsLines}

-- the text explains these lines: their replies are those of a legal history whose calls are those of the lines that are not
-- indented, and their facts those of its events
pub record Explanation (setting : Setting) (only : Bool) (lines : List (List ℕ)) (text : List ℕ) : Type 0 where
  pub replies : List ℕ
  pub scene : Scene
  pub kept : KeptLines
  pub tells : ExplainsLines setting.pool only first_scene lines text replies scene kept
  pub leads : LeadsTo setting (unindented lines) replies scene

-- why the line behind these, which this text explains, was not explained: memory was refused; or it is bad, or the history is full
abbrev pub IsUnexplained : Setting → Bool → List (List ℕ) → List ℕ → List ℕ → ReportFault → Type 0
IsUnexplained setting only lines text line fault = (explains : Explanation setting only lines text)
    × ((fault ≡ ReportFault.NoMemory) ⊎ ((is_indented line ≡ false) × IsWhy setting explains.scene line (length lines + 1) fault))

-- the text is the summary of this scene: of a core that shows its history, and of the events in which nodes failed, each line of it
-- behind four spaces
pub record IsSummary (setting : Setting) (scene : Scene) (summary : List ℕ) : Type 0 where
  pub last : State
  pub pool_is : last.pool ≡ setting.pool
  pub shows : Shows last scene.history
  pub told : summary ≡ indented (summary_text scene.names last (failing_events setting.pool scene.history))

-- the text is the summary, if one is asked for, and else empty
abbrev pub IsSummaryIf : Bool → Setting → Scene → List ℕ → Type 0
IsSummaryIf true setting scene summary = IsSummary setting scene summary
IsSummaryIf false setting scene summary = summary ≡ []

-- a text that explains these lines, and the summary behind it, if one is asked for
pub record Whole (setting : Setting) (scope : Scope) (lines : List (List ℕ)) : Type 0 where
  pub text : List ℕ
  pub explains : Explanation setting scope.only_failures lines text
  pub summary : List ℕ
  pub summarizes : IsSummaryIf scope.has_summary setting explains.scene summary

-- the text is all that is asked for of these lines
abbrev pub IsWhole : Setting → Scope → List (List ℕ) → List ℕ → Type 0
IsWhole setting scope lines text = (whole : Whole setting scope lines) × (text ≡ whole.text ++ whole.summary)

-- why not all was told of a script that was read: it was not explained to its end; or all lines were, and what stands behind them
-- could not be told
abbrev pub ExplanationStops : Setting → Scope → Option (List ℕ) → Option (List ℕ) → List ℕ → ReportFault → Type 0
ExplanationStops setting scope old new script fault =
    ScriptStops (Explanation setting scope.only_failures) (IsUnexplained setting scope.only_failures)
    (Explanation setting scope.only_failures) old new script fault
    ⊎ ((last_part script ≡ []) × ((IsWriteFault fault × WritesFirst (IsWhole setting scope (whole_lines script)) old new)
    ⊎ ((fault ≡ ReportFault.NoMemory) × Writes (Explanation setting scope.only_failures (whole_lines script)) old new)))

-- what came of a script that was read: without a fault all of it was told, and the summary, if one is asked for
abbrev pub WholeTold : Setting → Scope → Option (List ℕ) → Option (List ℕ) → List ℕ → Result (Unit {0}) ReportFault → Type 0
WholeTold setting scope old new script result = MatchResult result
    (λ _. (last_part script ≡ []) × Writes (IsWhole setting scope (whole_lines script)) old new)
    (ExplanationStops setting scope old new script)

-- a script was read, and of its lines what is in the scope was told
abbrev pub Explains : Setting → Scope → Option (List ℕ) → Option (List ℕ) → Option (List ℕ) → Option (List ℕ) →
    Result (Unit {0}) ReportFault → Type 0
Explains setting scope left_before left old new result =
    Reads (WholeTold setting scope old new) left_before left old new result

-- a script was explained, with this outcome: the status is its status, and its fault, if there is one, was told
abbrev pub EndsExplained : Setting → Scope → Option (List ℕ) → Option (List ℕ) → Option (List ℕ) → Option (List ℕ) →
    Option (List ℕ) → Option (List ℕ) → ℕ → Type 0
EndsExplained setting scope left_before left old new told_before told status =
    EndsReport (Explains setting scope left_before left old new) told_before told status
