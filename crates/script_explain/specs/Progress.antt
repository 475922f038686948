-- How far an explanation and a comparison have come. No public clause cites this module.
use Rattle.std.specs.Prelude.{◌≡◌, ◌⊎◌, ℕ, ◌+◌, ◌-◌, ◌^◌, min, ◌==◌, ◌||◌, not, if◌then◌else◌, Bool, true, false}
use Rattle.std.specs.Prelude.{List, [], ◌∷◌, ◌++◌, Option, MatchResult, Result}
use Rattle.std.specs.Io.KnownBytes.{Appends}
use Rattle.script_lines.specs.Written.{WritesPart}
use Rattle.report_io.specs.declared.fault.ReportFault.{ReportFault}
use Rattle.report_io.specs.Faults.{IsWriteFault}
use Rattle.report_io.specs.IndentedLines.{indented}
use Rattle.report_io.specs.Takings.{Writes, WritesFirst}
use Rattle.sm_script.specs.Scenes.{Scene, Setting, first_scene}
use Rattle.sm_script.specs.Sessions.{setting_of}
use Rattle.event_texts.specs.declared.event_writer.EventWriter.{EventWriter}
use Rattle.event_texts.specs.Failing.{failing_events}
use Rattle.event_texts.specs.SummaryTexts.{summary_text}
use Rattle.event_texts.specs.Called.{Knows}
use Rattle.event_texts.specs.Deeds.{KeptLines, Recalls}
use Rattle.script_explain.specs.declared.check.CheckResult.{CheckResult}
use Rattle.script_explain.specs.declared.check.Comparison.{Comparison}
use Rattle.script_explain.specs.declared.explain.Explainer.{Explainer}
use Rattle.script_explain.specs.declared.seen.Seen.{Seen}
use Rattle.script_explain.specs.Comparisons.{Agrees, Difference, IsSaid, IsUnchecked, TranscriptPlace}
use Rattle.script_explain.specs.Explanations.{IsUnexplained}
use Rattle.script_explain.specs.ExplainedLines.{ExplainsLines, if_told, numbered_facts, told_line}

-- ---- explanations

-- these lines were explained by this text
pub record IsSeen (setting : Setting) (only : Bool) (seen : Seen) (lines : List (List ℕ)) (text : List ℕ) : Type 0 where
  pub pool : seen.event_writer.session.core.pool ≡ setting.pool
  pub limits : seen.event_writer.session.core.limits ≡ setting.limits
  pub replies : List ℕ
  pub scene : Scene
  pub kept : KeptLines
  pub tells : ExplainsLines setting.pool only first_scene lines text replies scene kept
  pub knows : Knows seen.event_writer scene
  pub recalls : Recalls seen.event_writer kept
  pub failing : seen.failing.items ≡ failing_events setting.pool scene.history

-- the same, by an explainer that was this one at first; it takes more lines
abbrev pub Explained : Explainer → Explainer → Bool → List (List ℕ) → List ℕ → Type 0
Explained first now more lines text = (more ≡ true) × (now.only_failures ≡ first.only_failures)
    × IsSeen (setting_of first.seen.event_writer.session) first.only_failures now.seen lines text

-- these lines have this text, and the line behind them is not explained for this reason
abbrev pub Unexplained : Explainer → Explainer → List (List ℕ) → List ℕ → List ℕ → ReportFault → Type 0
Unexplained first now = IsUnexplained (setting_of first.seen.event_writer.session) first.only_failures

-- what the line of this number adds to the text, by what the event writer counted before it and behind it
abbrev pub told_between : Bool → EventWriter → EventWriter → ℕ → List ℕ → List ℕ → List ℕ → List ℕ
told_between only old new number line reply facts =
    if_told (not only || not (new.failures == old.failures))
    (told_line line reply (numbered_facts new.session.core.events number facts))

-- the number of the last event, if nodes failed in more events than these
abbrev pub failing_since : ℕ → EventWriter → List ℕ
failing_since before event_writer =
    if event_writer.failures == before then [] else event_writer.session.core.events ∷ []

-- the summary of what is known in this scene, each line of it behind four spaces
abbrev pub seen_summary : Seen → Scene → List ℕ
seen_summary seen scene = indented (summary_text scene.names seen.event_writer.session.core seen.failing.items)

-- this summary was written; or a part of it was, or nothing
abbrev pub SummaryTold : Option (List ℕ) → Option (List ℕ) → List ℕ → Result (Unit {0}) ReportFault → Type 0
SummaryTold old new summary result = MatchResult result (λ _. Appends old new summary)
    (λ fault. (IsWriteFault fault × WritesPart old new summary) ⊎ ((fault ≡ ReportFault.NoMemory) × Appends old new []))

-- ---- comparisons

-- the place where the comparison is
abbrev pub comparison_place : Comparison → Scene → KeptLines → TranscriptPlace
comparison_place c scene kept = record {
  scene = scene;
  kept = kept;
  number = c.number;
  line = c.line.items;
  reply = c.reply.items;
  facts = c.facts.items;
  lines = c.lines;
  replies = c.replies;
}

-- these lines were compared, and agree
pub record Compared (setting : Setting) (c : Comparison) (lines : List (List ℕ)) : Type 0 where
  pub pool : c.event_writer.session.core.pool ≡ setting.pool
  pub limits : c.event_writer.session.core.limits ≡ setting.limits
  pub scene : Scene
  pub kept : KeptLines
  pub agrees : Agrees setting.pool lines (comparison_place c scene kept)
  pub knows : Knows c.event_writer scene
  pub recalls : Recalls c.event_writer kept

-- they agree, and nothing is told of them; or the last of them is the first that does not, and this is told of it
abbrev pub IsCompared : Setting → Comparison → Bool → List (List ℕ) → List ℕ → Type 0
IsCompared setting now true lines text = (text ≡ []) × Compared setting now lines
IsCompared setting now false lines text = Difference setting lines text

-- the same, by a comparison that was this one at first
abbrev pub ComparedFrom : Comparison → Comparison → Bool → List (List ℕ) → List ℕ → Type 0
ComparedFrom first = IsCompared (setting_of first.event_writer.session)

-- these lines have this text, and the line behind them is neither played nor compared for this reason
abbrev pub Unchecked : Comparison → Comparison → List (List ℕ) → List ℕ → List ℕ → ReportFault → Type 0
Unchecked first now = IsUnchecked (setting_of first.event_writer.session)

-- how many lines were played that have a reply, where one more has this reply
abbrev pub lines_counted : ℕ → List ℕ → ℕ
lines_counted lines [] = lines
lines_counted lines (byte ∷ more) = min (lines + 1) (2 ^ 64 - 1)

-- what came of the verdict where all agree: it was written, or a part of it, or nothing
abbrev pub VerdictTold : TranscriptPlace → Option (List ℕ) → Option (List ℕ) → Result CheckResult ReportFault → Type 0
VerdictTold at old new result = MatchResult result (λ verdict. Writes (IsSaid verdict at []) old new)
    (λ fault. (IsWriteFault fault × (verdict : CheckResult) × WritesFirst (IsSaid verdict at []) old new)
    ⊎ ((fault ≡ ReportFault.NoMemory) × Appends old new []))
