-- A run that is extended by one line, or stops at it.
use Rattle.std.proofs.Common.{◌≡◌, ◌⊎◌, ℕ, ◌+◌, List, [], ◌∷◌, ◌++◌, length, append_assoc, append-nil, refl, sym, ap, ◌∙◌, subst}
use Rattle.std.proofs.Common.{Bool, true, Option, None, inl, inr}
use Rattle.std.specs.Io.KnownBytes.{Appends}
use Rattle.report_io.specs.declared.fault.ReportFault.{ReportFault}
use Rattle.report_io.specs.Faults.{GivesReason, IsFaultOf}
use Rattle.report_io.specs.Takings.{AtLine, Stops, WhyNot, Writes}
use Rattle.report_io.proofs.Reporting.{write_fault_is}
use Rattle.script_labels.specs.declared.stop.LineStop.{LineStop}
use Rattle.script_labels.specs.Names.{Names, act_in}
use Rattle.script_labels.specs.Tables.{Keeps}
use Rattle.script_lines.specs.Pieces.{whole_lines}
use Rattle.sm_script.specs.declared.session.Session.{Session}
use Rattle.sm_script.specs.declared.player.Player.{Player}
use Rattle.sm_script.specs.Players.{IsAnswered, Refuses, Took}
use Rattle.sm_script.specs.Runs.{IsBeyond, IsTold, IsUnanswered, IsWhy, RunStops, Stopped}
use Rattle.sm_script.specs.Scenes.{Scene, Setting, Plays, Rests, Goes, Answers, LeadsTo, first_scene}
use Rattle.sm_script.specs.Sessions.{Advances, IsAt, IsStopped, setting_of}
use Rattle.sm_script.proofs.Settings.{legal-in, why-in}

-- one more line
pub plays-more : (pool : ℕ) (from to next : Scene) (lines : List (List ℕ)) (texts line text : List ℕ) →
    Plays pool from lines texts to → Answers pool to line text next → Plays pool from (lines ++ line ∷ []) (texts ++ text) next
plays-more pool from to next lines texts line text (Rests scene) more =
    subst (λ all. Plays pool scene (line ∷ []) all next) (append-nil text) (Goes scene next next line text [] [] more (Rests next))
plays-more pool from to next lines texts line text (Goes scene mid last one its others their first rest) more =
    subst (λ all. Plays pool scene (one ∷ (others ++ line ∷ [])) all next) (sym (append_assoc its their text))
    (Goes scene mid next one its (others ++ line ∷ []) (their ++ text) first (plays-more pool mid last next others their line text rest
    more))

-- lines that were answered lead to a scene
pub answered-leads : (setting : Setting) (player : Player) (lines : List (List ℕ)) (text : List ℕ)
    (far : IsAnswered setting player lines text) → LeadsTo setting lines text far.scene
answered-leads setting player lines text far =
    record { plays = far.plays; legal = legal-in setting player.session far.scene far.pool far.limits far.is_at }

-- one more line was answered
pub answered-more : (first now next : Player) (lines : List (List ℕ)) (text line reply : List ℕ) → Took first now true lines text →
    ((scene : Scene) → IsAt now.session scene → Advances now.session next.session line reply scene) →
    Took first next true (lines ++ line ∷ []) (text ++ reply)
answered-more first now next lines text line reply (goes, far) advances =
    let step = advances far.scene far.is_at in (
      refl,
      record {
        pool = step.setting.pool ∙ far.pool;
        limits = step.setting.limits ∙ far.limits;
        scene = step.next;
        plays = plays-more first.session.core.pool first_scene far.scene step.next lines text line reply far.plays
            (subst (λ (pool : ℕ). Answers pool far.scene line reply step.next) far.pool step.answers);
        is_at = step.is_at;
      },
    )

module _ (first now : Player) (old new : Option (List ℕ)) where
  -- the text of exactly these lines was written
  pub told-by : (more : Bool) (lines : List (List ℕ)) → Writes (Took first now more lines) old new → IsTold (setting_of first.session) old new lines
  told-by more lines out = record {
    texts = out.text;
    scene = out.is.1.scene;
    leads = answered-leads (setting_of first.session) now lines out.text out.is.1;
    written = out.written;
  }

  module _ (left : Option (List ℕ)) (script beyond : List ℕ) where
    -- a line was not answered
    line-stops : (fault : ReportFault) →
        AtLine (λ before line. Writes (λ text. WhyNot (Took first) (Refuses first) now before text line fault) old new)
        (whole_lines script) →
        IsBeyond beyond fault × RunStops (setting_of first.session) left old new script fault
    line-stops fault stop = by stop.at.is
      where
        -- for this reason
        unanswered : (f : ReportFault) (scene : Scene) → LeadsTo (setting_of first.session) stop.before stop.at.text scene →
            IsWhy (setting_of first.session) scene stop.line (length stop.before + 1) f →
            IsUnanswered (setting_of first.session) old new (whole_lines script) f
        unanswered f scene leads why = record {
          before = stop.before;
          line = stop.line;
          after = stop.after;
          split = stop.split;
          texts = stop.at.text;
          scene = scene;
          leads = leads;
          why = why;
          written = stop.at.written;
        }

        -- by cases on the fault
        told : (f : ReportFault) (scene : Scene) → LeadsTo (setting_of first.session) stop.before stop.at.text scene →
            IsWhy (setting_of first.session) scene stop.line (length stop.before + 1) f →
            IsBeyond beyond f × RunStops (setting_of first.session) left old new script f
        told (ReportFault.BadLine n reason) scene leads why = (tt, inl (unanswered (ReportFault.BadLine n reason) scene leads why))
        told ReportFault.HistoryFull scene leads why = (tt, unanswered ReportFault.HistoryFull scene leads why)
        told ReportFault.NoMemory scene leads why = (tt, inl (unanswered ReportFault.NoMemory scene leads why))
        told (ReportFault.WriteFault failed) scene leads why = absurd why
        told ReportFault.ReadFault scene leads why = absurd why
        told ReportFault.TooLong scene leads why = absurd why
        told (ReportFault.Missing sought n) scene leads why = absurd why

        -- by cases: memory was refused, or the session says why
        by : WhyNot (Took first) (Refuses first) now stop.before stop.at.text stop.line fault →
            IsBeyond beyond fault × RunStops (setting_of first.session) left old new script fault
        by (inl (is, at, took)) = rw is (told ReportFault.NoMemory took.1.scene
            (answered-leads (setting_of first.session) at stop.before stop.at.text took.1) tt)
        by (inr (scene, leads, why)) = told fault scene leads why

    -- lines that were not all answered stop the run
    pub stops-run : (fault : ReportFault) → Stops (Took first) (Refuses first) now old new (whole_lines script) fault →
        IsBeyond beyond fault × RunStops (setting_of first.session) left old new script fault
    stops-run fault (inl (is, cut)) = rw (write_fault_is fault is).1 (
      tt,
      record {
        before = cut.before;
        after = cut.after;
        split = cut.split;
        texts = cut.at.text;
        scene = cut.at.is.3.1.scene;
        leads = answered-leads (setting_of first.session) cut.at.is.1 cut.before cut.at.text cut.at.is.3.1;
        written = cut.at.written;
      },
    )
    stops-run fault (inr stop) = line-stops fault stop

-- no line was answered
pub answered-none : (player : Player) → IsAt player.session first_scene → Took player player true [] []
answered-none player at = (refl, record { pool = refl; limits = refl; scene = first_scene; plays = Rests first_scene; is_at = at })

-- the line of this number was not answered, which is told with its reason
pub answer-stop : (now next : Player) (line : List ℕ) (stop : LineStop) (number : ℕ) (fault : ReportFault) →
    ((scene : Scene) → IsAt now.session scene → IsStopped now.session line scene stop) →
    (stop ≡ LineStop.BadLine → next.session ≡ now.session) → IsFaultOf number stop fault →
    ((names : Names) → Keeps next.session.tables names → act_in names line ≡ None → GivesReason names line fault) →
    (first : Player) (lines : List (List ℕ)) (text : List ℕ) → Took first now true lines text → number ≡ length lines + 1 →
    Refuses first next lines text line fault
answer-stop now next line stop number fault stopped same is known first lines text (goes, far) numbered = (
  far.scene,
  answered-leads (setting_of first.session) now lines text far,
  rw (sym numbered) (why-in (setting_of first.session) now.session far.scene line far.pool far.limits number stop fault
      (stopped far.scene far.is_at) is (λ bad. known far.scene.names
      (subst (λ (session : Session). Keeps session.tables far.scene.names) (sym (same bad)) far.is_at.keeps))),
)
