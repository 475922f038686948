-- An explanation that is extended by one line, or stops at it.
use Rattle.std.proofs.Common.{◌≡◌, ◌≢◌, ◌⊎◌, ℕ, ◌+◌, ◌==◌, ◌||◌, not, Bool, true, false, List, [], ◌∷◌, ◌++◌}
use Rattle.std.proofs.Common.{length, append-nil, refl, sym, ap, ◌∙◌, subst, None, Option, inl, inr}
use Rattle.sm_names.specs.Timelines.{timeline}
use Rattle.core_state.proofs.theorem.EventCount.{events-timeline}
use Rattle.report_io.specs.declared.fault.ReportFault.{ReportFault}
use Rattle.report_io.specs.Faults.{GivesReason, IsFaultOf}
use Rattle.report_io.specs.IndentedLines.{is_indented, unindented}
use Rattle.report_io.specs.Takings.{Gains, HasText, ScriptStops, WhyNot}
use Rattle.report_io.proofs.Takings.{stops-weaker}
use Rattle.report_io.proofs.Unindented.{unindented-more, unindented-skip}
use Rattle.script_labels.specs.declared.stop.LineStop.{LineStop}
use Rattle.script_labels.specs.Names.{act_in}
use Rattle.sm_script.specs.Scenes.{ActGives, Plays, Rests, Scene, Setting, first_scene}
use Rattle.sm_script.specs.Sessions.{IsAt, IsStopped, setting_of}
use Rattle.sm_script.proofs.Playing.{plays-more}
use Rattle.sm_script.proofs.Settings.{legal-in, why-in}
use Rattle.event_texts.specs.declared.event_writer.EventWriter.{EventWriter}
use Rattle.event_texts.specs.Called.{Knows}
use Rattle.event_texts.specs.Failing.{failures}
use Rattle.event_texts.specs.Deeds.{KeptLines, Recalls, no_lines}
use Rattle.event_texts.specs.EventLines.{TellsLine}
use Rattle.script_explain.specs.declared.explain.Explainer.{Explainer}
use Rattle.script_explain.specs.declared.seen.Seen.{Seen}
use Rattle.script_explain.specs.Explanations.{Explanation, IsUnexplained}
use Rattle.script_explain.specs.ExplainedLines.{ExplainsLines, Begins, Passes, Goes, if_told, is_told, numbered_facts, told_line}
use Rattle.script_explain.specs.Progress.{IsSeen, Unexplained, Explained, failing_since, told_between}
use Rattle.script_explain.proofs.LineTold.{answers-in, tells-in}
use Rattle.script_explain.proofs.Seeing.{failing-more}

-- the lines that are not indented are played, one after another
pub tells-plays : (pool : ℕ) (only : Bool) (first : Scene) (lines : List (List ℕ))
    (text replies : List ℕ) (scene : Scene) (kept : KeptLines) →
    ExplainsLines pool only first lines text replies scene kept → Plays pool first (unindented lines) replies scene
tells-plays pool only first lines text replies scene kept Begins = Rests first
tells-plays pool only first lines text replies scene kept (Passes before line said given there known so_far skip) =
    subst (λ (ls : List (List ℕ)). Plays pool first ls given there) (sym (unindented-skip before line skip))
    (tells-plays pool only first before said given there known so_far)
tells-plays pool only first lines text replies scene kept
    (Goes before line said given reply facts there next known later so_far whole answers tells) =
    subst (λ (ls : List (List ℕ)). Plays pool first ls (given ++ reply) next) (sym (unindented-more before line whole))
    (plays-more pool first there next (unindented before) given line reply
    (tells-plays pool only first before said given there known so_far)
    answers)

-- the text of a line by the counts of the event writer before it and behind it is that by the scenes
between-is : (only : Bool) (pool : ℕ) (event_writer next : EventWriter) (number : ℕ) (line reply facts : List ℕ) (scene later : Scene)
    (lines : List (List ℕ)) → event_writer.session.core.pool ≡ pool → next.session.core.pool ≡ pool →
    event_writer.failures ≡ failures (timeline event_writer.session.core.pool scene.history) →
    next.failures ≡ failures (timeline next.session.core.pool later.history) → next.session.core.events ≡ length later.history →
    number ≡ length lines + 1 → told_between only event_writer next number line reply facts
    ≡ if_told (is_told only pool scene later) (told_line line reply (numbered_facts (length later.history) (length lines + 1) facts))
between-is only pool event_writer next number line reply facts scene later lines before after counted counted_later events numbered = λ i.
    if_told (not only || not ((counted_later ∙ ap (λ (p : ℕ). failures (timeline p later.history)) after) i
    == (counted ∙ ap (λ (p : ℕ). failures (timeline p scene.history)) before) i))
    (told_line line reply (numbered_facts (events i) (numbered i) facts))

module _ (setting : Setting) (only : Bool) (seen : Seen) (lines : List (List ℕ)) (text : List ℕ)
    (far : IsSeen setting only seen lines text) where
  -- the lines so far are explained
  abbrev pub seen-explains : Explanation setting only lines text
  seen-explains = record {
    replies = far.replies;
    scene = far.scene;
    kept = far.kept;
    tells = far.tells;
    leads = record {
      plays = tells-plays setting.pool only first_scene lines text far.replies far.scene far.kept far.tells;
      legal = legal-in setting seen.event_writer.session far.scene far.pool far.limits far.knows.is_at;
    };
  }

  -- an indented line is passed over
  pub seen-pass : (line : List ℕ) → is_indented line ≡ true → IsSeen setting only seen (lines ++ line ∷ []) text
  seen-pass line skip = record {
    pool = far.pool;
    limits = far.limits;
    replies = far.replies;
    scene = far.scene;
    kept = far.kept;
    tells = Passes lines line text far.replies far.scene far.kept far.tells skip;
    knows = far.knows;
    recalls = far.recalls;
    failing = far.failing;
  }

  -- one more line was explained
  pub seen-more : (next : Seen) (line reply facts : List ℕ) (number : ℕ) → is_indented line ≡ false →
      ((scene : Scene) (kept : KeptLines) → Knows seen.event_writer scene → Recalls seen.event_writer kept →
      TellsLine seen.event_writer next.event_writer number line reply facts scene kept) →
      next.failing.items ≡ seen.failing.items ++ failing_since seen.event_writer.failures next.event_writer → number ≡ length lines + 1 →
      IsSeen setting only next (lines ++ line ∷ [])
      (text ++ told_between only seen.event_writer next.event_writer number line reply facts)
  seen-more next line reply facts number whole tells failing numbered =
      let told = tells far.scene far.kept far.knows far.recalls in
      let step = told.advances in
      let piece : List ℕ =
      if_told (is_told only setting.pool far.scene step.next)
      (told_line line reply (numbered_facts (length step.next.history) (length lines + 1) facts)) in
      let events = step.is_at.shows.shown.events ∙ events-timeline next.event_writer.session.core.pool step.next.history in
      let there : next.event_writer.session.core.pool ≡ setting.pool = step.setting.pool ∙ far.pool in
      let piece_is : told_between only seen.event_writer next.event_writer number line reply facts ≡ piece =
      between-is only setting.pool seen.event_writer next.event_writer number line reply facts far.scene step.next lines far.pool there
      far.knows.failed told.failed events numbered in
      record {
        pool = step.setting.pool ∙ far.pool;
        limits = step.setting.limits ∙ far.limits;
        replies = far.replies ++ reply;
        scene = step.next;
        kept = told.later;
        tells = subst (λ (more : List ℕ). ExplainsLines setting.pool only first_scene (lines ++ line ∷ []) (text ++ more)
            (far.replies ++ reply) step.next told.later) (sym piece_is)
            (Goes lines line text far.replies reply facts far.scene step.next far.kept told.later far.tells whole
            (answers-in setting.pool seen.event_writer next.event_writer line reply far.scene far.pool step)
            (tells-in setting.pool seen.event_writer next.event_writer number line reply facts far.scene far.kept
            (length lines + 1) far.pool far.knows.is_at numbered told));
        knows = record { is_at = step.is_at; calls = told.calls; failed = told.failed };
        recalls = told.recalls;
        failing = failing ∙ ap (λ (front : List ℕ). front ++ failing_since seen.event_writer.failures next.event_writer) far.failing
            ∙ failing-more setting.pool seen.event_writer next.event_writer far.scene step.next
            (far.knows.failed ∙ ap (λ (p : ℕ). failures (timeline p far.scene.history)) far.pool)
            (told.failed ∙ ap (λ (p : ℕ). failures (timeline p step.next.history)) there) events step.answers.act reply
            (subst (λ (p : ℕ). ActGives p far.scene step.answers.act reply step.next) far.pool step.answers.gives);
      }

  -- a line was not explained
  pub seen-stop : (line : List ℕ) (stop : LineStop) (number : ℕ) (fault : ReportFault) → is_indented line ≡ false →
      ((scene : Scene) → IsAt seen.event_writer.session scene → IsStopped seen.event_writer.session line scene stop) →
      IsFaultOf number stop fault →
      (stop ≡ LineStop.BadLine → act_in far.scene.names line ≡ None → GivesReason far.scene.names line fault) →
      number ≡ length lines + 1 → IsUnexplained setting only lines text line fault
  seen-stop line stop number fault whole why is told numbered = (
    seen-explains,
    inr (
      whole,
      rw (sym numbered) (why-in setting seen.event_writer.session far.scene line far.pool far.limits number stop fault
          (why far.scene far.knows.is_at) is told),
    ),
  )

-- no line was explained
pub seen-none : (setting : Setting) (only : Bool) (seen : Seen) →
    seen.event_writer.session.core.pool ≡ setting.pool → seen.event_writer.session.core.limits ≡ setting.limits →
    Knows seen.event_writer first_scene → Recalls seen.event_writer no_lines → seen.failing.items ≡ [] → IsSeen setting only seen [] []
seen-none setting only seen pool limits knows recalls failing = record {
  pool = pool;
  limits = limits;
  replies = [];
  scene = first_scene;
  kept = no_lines;
  tells = Begins;
  knows = knows;
  recalls = recalls;
  failing = failing;
}

-- a script that was not taken to its end was not explained to its end
pub took-stops : (first now : Explainer) (old new : Option (List ℕ)) (script : List ℕ) (fault : ReportFault) →
    ScriptStops (HasText (Explained first)) (WhyNot (Explained first) (Unexplained first) now) (Explained first now true) old new script fault →
    ScriptStops (Explanation (setting_of first.seen.event_writer.session) first.only_failures) (IsUnexplained (setting_of first.seen.event_writer.session) first.only_failures)
    (Explanation (setting_of first.seen.event_writer.session) first.only_failures) old new script fault
took-stops first now old new script fault =
    stops-weaker (HasText (Explained first)) (Explanation (setting_of first.seen.event_writer.session) first.only_failures)
    (WhyNot (Explained first) (Unexplained first) now) (IsUnexplained (setting_of first.seen.event_writer.session) first.only_failures)
    (Explained first now true) (Explanation (setting_of first.seen.event_writer.session) first.only_failures)
    (λ lines text has. seen-explains (setting_of first.seen.event_writer.session) first.only_failures has.1.seen lines text has.3.2)
    by (λ lines text took. seen-explains (setting_of first.seen.event_writer.session) first.only_failures now.seen lines text took.2)
    old new script fault
  where
    -- by cases: memory was refused, or the explainer says why
    by : (lines : List (List ℕ)) (text line : List ℕ) (f : ReportFault) → WhyNot (Explained first) (Unexplained first) now lines text line f →
        IsUnexplained (setting_of first.seen.event_writer.session) first.only_failures lines text line f
    by lines text line f (inl (none, at, took)) =
        (seen-explains (setting_of first.seen.event_writer.session) first.only_failures at.seen lines text took.2, inl none)
    by lines text line f (inr refused) = refused

-- an indented line is taken without a text
pub took-pass : (first now : Explainer) (lines : List (List ℕ)) (whole text line : List ℕ) → is_indented line ≡ true →
    Explained first now true lines whole → Gains (Explained first now true (lines ++ line ∷ [])) whole text text
took-pass first now lines whole text line skip took = (
  [],
  sym (append-nil text),
  (
    refl,
    took.1,
    subst (IsSeen (setting_of first.seen.event_writer.session) first.only_failures now.seen (lines ++ line ∷ [])) (sym (append-nil whole))
        (seen-pass (setting_of first.seen.event_writer.session) first.only_failures now.seen lines whole took.2 line skip),
  ),
)

-- any other is taken with its explanation
pub took-more : (first now next : Explainer) (lines : List (List ℕ)) (whole text later line reply facts : List ℕ) (number : ℕ) →
    is_indented line ≡ false → ((scene : Scene) (kept : KeptLines) → Knows now.seen.event_writer scene → Recalls now.seen.event_writer kept →
    TellsLine now.seen.event_writer next.seen.event_writer number line reply facts scene kept) →
    next.seen.failing.items ≡ now.seen.failing.items ++ failing_since now.seen.event_writer.failures next.seen.event_writer →
    next.only_failures ≡ now.only_failures →
    later ≡ text ++ told_between now.only_failures now.seen.event_writer next.seen.event_writer number line reply facts →
    Explained first now true lines whole → number ≡ length lines + 1 →
    Gains (Explained first next true (lines ++ line ∷ [])) whole text later
took-more first now next lines whole text later line reply facts number bare tells failing scope grown took numbered = (
  told_between now.only_failures now.seen.event_writer next.seen.event_writer number line reply facts,
  grown,
  (
    refl,
    scope ∙ took.1,
    subst (λ (only : Bool). IsSeen (setting_of first.seen.event_writer.session) first.only_failures next.seen (lines ++ line ∷ [])
        (whole ++ told_between only now.seen.event_writer next.seen.event_writer number line reply facts)) (sym took.1)
        (seen-more (setting_of first.seen.event_writer.session) first.only_failures now.seen lines whole took.2 next.seen line reply facts
        number bare tells failing numbered),
  ),
)
