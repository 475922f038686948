-- The outcome of an explanation once its text is written.
use Rattle.std.proofs.Common.{◌≡◌, ℕ, Bool, true, false, List, [], ◌++◌, append-nil, refl, sym, ap, ◌∙◌, subst, Option, inl, inr}
use Rattle.std.proofs.KnownBytes.{Appends-kept, Appends-nil, Appends-trans}
use Rattle.std.specs.Prelude.{Ok, Err, IfErr, OnOk, Result}
use Rattle.std.specs.Io.KnownBytes.{Appends, Keeps}
use Rattle.script_lines.specs.Pieces.{whole_lines, last_part}
use Rattle.script_lines.specs.Written.{WritesPart}
use Rattle.report_io.specs.declared.fault.ReportFault.{ReportFault}
use Rattle.report_io.specs.Faults.{IsWriteFault}
use Rattle.report_io.specs.IndentedLines.{indented}
use Rattle.report_io.specs.Takings.{IsTaken}
use Rattle.report_io.proofs.Takings.{part-behind, taken-whole}
use Rattle.sm_script.specs.Scenes.{Scene, Setting}
use Rattle.sm_script.specs.Sessions.{setting_of}
use Rattle.event_texts.specs.Called.{Knows}
use Rattle.event_texts.specs.SummaryTexts.{summary_text}
use Rattle.script_explain.specs.declared.explain.Explainer.{Explainer}
use Rattle.script_explain.specs.declared.explain.Scope.{Scope}
use Rattle.script_explain.specs.ExplainedLines.{if_told}
use Rattle.script_explain.specs.Explanations.{IsSummary, IsSummaryIf, Whole, WholeTold}
use Rattle.script_explain.specs.Progress.{IsSeen, SummaryTold, Explained, seen_summary}
use Rattle.script_explain.proofs.Telling.{seen-explains}

-- a summary, or nothing where none is asked for
summary-if : (asked : Bool) (setting : Setting) (scene : Scene) (summary : List ℕ) → IsSummary setting scene summary →
    IsSummaryIf asked setting scene (if_told asked summary)
summary-if true setting scene summary is = is
summary-if false setting scene summary is = refl

module _ (first now : Explainer) (asked : Bool) (old mid : Option (List ℕ)) (script : List ℕ) (more : Bool)
    (taken : IsTaken (Explained first) now old mid script more) where
  -- all lines were explained
  all-seen : IsSeen (setting_of first.seen.event_writer.session) first.only_failures now.seen (whole_lines script) taken.out.text
  all-seen = subst (λ (ls : List (List ℕ)). IsSeen (setting_of first.seen.event_writer.session) first.only_failures now.seen ls taken.out.text)
      (sym (taken-whole (Explained first) now old mid script more taken taken.out.is.0)) taken.out.is.2

  -- the last of them has an end
  ended : last_part script ≡ []
  ended = (taken.all taken.out.is.0).1

  -- what stands behind them
  abbrev summary : List ℕ
  summary = if_told asked (seen_summary now.seen all-seen.scene)

  -- all that is asked for
  abbrev whole : Whole (setting_of first.seen.event_writer.session) (record { only_failures = first.only_failures; has_summary = asked }) (whole_lines script)
  whole = record {
    text = taken.out.text;
    explains = seen-explains (setting_of first.seen.event_writer.session) first.only_failures now.seen (whole_lines script) taken.out.text all-seen;
    summary = summary;
    summarizes = summary-if asked (setting_of first.seen.event_writer.session) all-seen.scene (seen_summary now.seen all-seen.scene) (record {
      last = now.seen.event_writer.session.core;
      pool_is = all-seen.pool;
      shows = all-seen.knows.is_at.shows;
      told = ap (λ (f : List ℕ). indented (summary_text all-seen.scene.names now.seen.event_writer.session.core f)) all-seen.failing;
    });
  }

  -- the summary was written behind all lines, or was not
  pub whole-told : (new : Option (List ℕ)) (result : Result (Unit {0}) ReportFault) →
      ((scene : Scene) → Knows now.seen.event_writer scene →
      SummaryTold mid new (if_told asked (seen_summary now.seen scene)) result) →
      WholeTold (setting_of first.seen.event_writer.session) (record { only_failures = first.only_failures; has_summary = asked }) old new script result
  whole-told new result tells = by result (tells all-seen.scene all-seen.knows)
    where
      -- by cases on the outcome
      by : (r : Result (Unit {0}) ReportFault) → SummaryTold mid new summary r →
          WholeTold (setting_of first.seen.event_writer.session) (record { only_failures = first.only_failures; has_summary = asked }) old new script r
      by (Ok done) out = (
        ended,
        record {
          text = taken.out.text ++ summary;
          is = (whole, refl);
          written = Appends-trans old mid new taken.out.text summary taken.out.written out;
        },
      )
      by (Err fault) (inl (is, part)) = inr (
        ended,
        inl (
          is,
          record {
            text = taken.out.text ++ summary;
            is = (whole, refl);
            written = part-behind old mid new taken.out.text summary taken.out.written part;
          },
        ),
      )
      by (Err fault) (inr (none, same)) = inr (
        ended,
        inr (
          none,
          record {
            text = taken.out.text;
            is = whole.explains;
            written = subst (λ (t : List ℕ). Appends old new t) (append-nil taken.out.text)
                (Appends-trans old mid new taken.out.text [] taken.out.written same);
          },
        ),
      )

-- nothing stands behind the lines, and the writer was flushed, or could not be
pub flushed-told : (old new : Option (List ℕ)) (result : Result (Unit {0}) ReportFault) → Keeps old new → IfErr result IsWriteFault →
    SummaryTold old new [] result
flushed-told old new (Ok done) kept fails = Appends-kept old old new [] (Appends-nil old) kept
flushed-told old new (Err fault) kept fails =
    inl (fails, record { done = []; rest = []; split = refl; written = Appends-kept old old new [] (Appends-nil old) kept })

-- the summary was put, or a part of it
pub put-told : (old new : Option (List ℕ)) (summary : List ℕ) (result : Result (Unit {0}) ReportFault) →
    OnOk result (Appends old new summary) → IfErr result (λ fault. IsWriteFault fault × WritesPart old new summary) →
    SummaryTold old new summary result
put-told old new summary (Ok done) out fails = out
put-told old new summary (Err fault) out fails = inl fails
