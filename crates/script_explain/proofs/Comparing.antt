-- A comparison that is extended by one line, or stops at it.
use Rattle.std.proofs.Common.{◌≡◌, ◌≢◌, ◌⊎◌, ℕ, ◌+◌, ◌-◌, ◌^◌, ◌<◌, ◌≤◌, min, Bool, true, false, if◌then◌else◌, List, [], ◌∷◌, ◌++◌, drop}
use Rattle.std.proofs.Common.{length, length-append, append_assoc, append-nil, refl, sym, ap, ◌∙◌, subst, Option, Some, None, inl, inr, arith}
use Rattle.std.proofs.KnownBytes.{Appends-kept, Appends-trans}
use Rattle.std.specs.Prelude.{Ok, Err, Result, IfOk, IfErr}
use Rattle.std.specs.Io.KnownBytes.{Appends, Keeps}
use Rattle.script_lines.specs.Pieces.{whole_lines}
use Rattle.script_lines.specs.Written.{WritesPart}
use Rattle.report_io.specs.declared.fault.ReportFault.{ReportFault}
use Rattle.report_io.specs.Faults.{GivesReason, HasReason, IsBadLine, IsFaultOf, IsReported, IsWriteFault}
use Rattle.report_io.specs.IndentedLines.{behind_indent, indented, is_indented, unindented}
use Rattle.report_io.specs.Takings.{HasText, IsTaken, ScriptStops, WhyNot}
use Rattle.report_io.proofs.Takings.{part-behind, stops-weaker, taken-whole}
use Rattle.report_io.proofs.Unindented.{unindented-more, unindented-skip}
use Rattle.script_labels.specs.declared.stop.LineStop.{LineStop}
use Rattle.script_labels.specs.Names.{act_in}
use Rattle.sm_script.specs.Scenes.{Plays as PlaysLines, Rests, Scene, Setting, as_line, first_scene}
use Rattle.sm_script.specs.Sessions.{IsAt, IsStopped, setting_of}
use Rattle.sm_script.proofs.Playing.{plays-more}
use Rattle.sm_script.proofs.Settings.{legal-in, why-in}
use Rattle.event_texts.specs.declared.event_writer.EventWriter.{EventWriter}
use Rattle.event_texts.specs.Called.{Knows}
use Rattle.event_texts.specs.Deeds.{KeptLines, Recalls, no_lines}
use Rattle.event_texts.specs.EventLines.{TellsLine}
use Rattle.script_explain.specs.declared.check.Comparison.{Comparison}
use Rattle.script_explain.specs.declared.check.CheckResult.{CheckResult}
use Rattle.script_explain.specs.Comparisons.{Agreement, Agrees, AgreesSoFar, Begins, CheckStops, CheckTold, Checks, Difference, EndsChecked, Plays}
use Rattle.script_explain.specs.Comparisons.{IsRemark, IsSaid, IsUnchecked, IsVerdict, Records, Remarks, Replies, TranscriptPlace}
use Rattle.script_explain.specs.Comparisons.{checking_status, early_reason, lines_with, told_difference}
use Rattle.script_explain.specs.Progress.{Compared, ComparedFrom, Unchecked, VerdictTold, comparison_place, lines_counted}
use Rattle.script_explain.proofs.LineTold.{answers-in, tells-in}

-- the lines that are not indented are played, one after another
pub agrees-plays : (pool : ℕ) (lines : List (List ℕ)) (at : TranscriptPlace) → Agrees pool lines at →
    (texts : List ℕ) × PlaysLines pool first_scene (unindented lines) texts at.scene
agrees-plays pool lines at Begins = ([], Rests first_scene)
agrees-plays pool lines at (Remarks before line there so_far remark) =
    let rest = agrees-plays pool before there so_far in (
      rest.0,
      subst (λ (ls : List (List ℕ)). PlaysLines pool first_scene ls rest.0 there.scene)
          (sym (unindented-skip before line remark.0)) rest.1,
    )
agrees-plays pool lines at (Replies before line reply there so_far records same) =
    let rest = agrees-plays pool before there so_far in (
      rest.0,
      subst (λ (ls : List (List ℕ)). PlaysLines pool first_scene ls rest.0 there.scene)
          (sym (unindented-skip before line records.0)) rest.1,
    )
agrees-plays pool lines at (Plays before line reply facts there next later so_far whole answers tells) =
    let rest = agrees-plays pool before there so_far in (
      rest.0 ++ reply,
      subst (λ (ls : List (List ℕ)). PlaysLines pool first_scene ls (rest.0 ++ reply) next)
          (sym (unindented-more before line whole))
          (plays-more pool first_scene there.scene next (unindented before) rest.0 line reply rest.1 answers),
    )

-- no more lines were played than there are, and no more replies compared
record AreFew (lines : List (List ℕ)) (at : TranscriptPlace) : Type 0 where
  lines_few : at.lines ≤ length lines
  replies_few : at.replies ≤ length lines

-- a line counts once at most
one-line : (lines : ℕ) (reply : List ℕ) → lines_with lines reply ≤ lines + 1
one-line lines [] = omega arith
one-line lines (byte ∷ more) = omega arith

-- a line raises each of the two counts by one at most, by induction on the lines
agrees-few : (pool : ℕ) (lines : List (List ℕ)) (at : TranscriptPlace) → Agrees pool lines at → AreFew lines at
agrees-few pool lines at Begins = record { lines_few = omega arith; replies_few = omega arith }
agrees-few pool lines at (Remarks before line there so_far remark) =
    let few = agrees-few pool before there so_far in
    let count = length-append before (line ∷ []) in
    record { lines_few = omega (arith, few.lines_few, count); replies_few = omega (arith, few.replies_few, count) }
agrees-few pool lines at (Replies before line reply there so_far records same) =
    let few = agrees-few pool before there so_far in
    let count = length-append before (line ∷ []) in
    record { lines_few = omega (arith, few.lines_few, count); replies_few = omega (arith, few.replies_few, count) }
agrees-few pool lines at (Plays before line reply facts there next later so_far whole answers tells) =
    let few = agrees-few pool before there so_far in
    let count = length-append before (line ∷ []) in
    let one = one-line there.lines reply in
    record { lines_few = omega (arith, few.lines_few, count, one); replies_few = omega (arith, few.replies_few, count) }

-- a number that is small is counted up: lines are numbered by such numbers
count-up : (count most number : ℕ) → count ≤ most → number ≡ most + 1 → number < 2 ^ 64 → (next : ℕ) →
    next ≡ min (count + 1) (2 ^ 64 - 1) → next ≡ count + 1
count-up count most number few is small next saturates = omega (arith, saturates, is, small, few)

-- a small number of lines is counted up where the line has a reply
count-line : (lines most number : ℕ) (reply : List ℕ) → lines ≤ most → number ≡ most + 1 → number < 2 ^ 64 → (next : ℕ) →
    next ≡ lines_counted lines reply → next ≡ lines_with lines reply
count-line lines most number [] few is small next counted = counted
count-line lines most number (byte ∷ more) few is small next counted = count-up lines most number few is small next counted

-- the place of these parts
abbrev place : Scene → KeptLines → ℕ → List ℕ → List ℕ → List ℕ → ℕ → ℕ → TranscriptPlace
place scene kept number line reply facts lines replies = record {
  scene = scene;
  kept = kept;
  number = number;
  line = line;
  reply = reply;
  facts = facts;
  lines = lines;
  replies = replies;
}

-- two places whose parts are the same
same-place : (scene : Scene) (kept : KeptLines) (n m : ℕ) (l k r s f g : List ℕ) (a b c d : ℕ) → n ≡ m → l ≡ k → r ≡ s → f ≡ g →
    a ≡ b → c ≡ d → place scene kept n l r f a c ≡ place scene kept m k s g b d
same-place scene kept n m l k r s f g a b c d p q t w u v = λ i. record {
  scene = scene;
  kept = kept;
  number = p i;
  line = q i;
  reply = t i;
  facts = w i;
  lines = u i;
  replies = v i;
}

module _ (setting : Setting) (c : Comparison) (lines : List (List ℕ)) (far : Compared setting c lines) where
  -- the lines so far agree
  abbrev pub far-agreed : Agreement setting lines (comparison_place c far.scene far.kept)
  far-agreed = record {
    agrees = far.agrees;
    texts = (agrees-plays setting.pool lines (comparison_place c far.scene far.kept) far.agrees).0;
    leads = record {
      plays = (agrees-plays setting.pool lines (comparison_place c far.scene far.kept) far.agrees).1;
      legal = legal-in setting c.event_writer.session far.scene far.pool far.limits far.knows.is_at;
    };
  }

  -- the numbers of played lines and of compared replies are at most the number of compared lines
  few : AreFew lines (comparison_place c far.scene far.kept)
  few = agrees-few setting.pool lines (comparison_place c far.scene far.kept) far.agrees

  -- a remark is passed over
  pub far-remark : (line : List ℕ) → IsRemark line → Compared setting c (lines ++ line ∷ [])
  far-remark line remark = record {
    pool = far.pool;
    limits = far.limits;
    scene = far.scene;
    kept = far.kept;
    agrees = Remarks lines line (comparison_place c far.scene far.kept) far.agrees remark;
    knows = far.knows;
    recalls = far.recalls;
  }

  -- one more line was played
  pub far-play : (next : Comparison) (line : List ℕ) (number : ℕ) → is_indented line ≡ false → number ≡ length lines + 1 →
      number < 2 ^ 64 → ((scene : Scene) (kept : KeptLines) → Knows c.event_writer scene → Recalls c.event_writer kept →
      TellsLine c.event_writer next.event_writer number line next.reply.items next.facts.items scene kept) → next.number ≡ number →
      next.line.items ≡ line → next.lines ≡ lines_counted c.lines next.reply.items → next.replies ≡ c.replies →
      Compared setting next (lines ++ line ∷ [])
  far-play next line number whole numbered small tells its_number its_line its_lines its_replies =
      let told = tells far.scene far.kept far.knows far.recalls in
      let step = told.advances in
      let reply = next.reply.items in
      let facts = next.facts.items in
      let count : next.lines ≡ lines_with c.lines reply =
      count-line c.lines (length lines) number reply few.lines_few numbered small next.lines its_lines in
      record {
        pool = step.setting.pool ∙ far.pool;
        limits = step.setting.limits ∙ far.limits;
        scene = step.next;
        kept = told.later;
        agrees = subst (Agrees setting.pool (lines ++ line ∷ []))
            (sym (same-place step.next told.later next.number (length lines + 1) next.line.items line reply reply facts facts
            next.lines (lines_with c.lines reply) next.replies c.replies (its_number ∙ numbered) its_line refl refl count its_replies))
            (Plays lines line reply facts (comparison_place c far.scene far.kept) step.next told.later far.agrees whole
            (answers-in setting.pool c.event_writer next.event_writer line reply far.scene far.pool step)
            (tells-in setting.pool c.event_writer next.event_writer number line reply facts far.scene far.kept (length lines + 1) far.pool
            far.knows.is_at numbered told));
        knows = record { is_at = step.is_at; calls = told.calls; failed = told.failed };
        recalls = told.recalls;
      }

  -- one more reply was compared, and is the machine's
  pub far-reply : (next : Comparison) (line reply : List ℕ) (number : ℕ) → Records line reply → number ≡ length lines + 1 →
      number < 2 ^ 64 → c.reply.items ≡ as_line reply → next.event_writer ≡ c.event_writer → next.number ≡ c.number →
      next.line.items ≡ c.line.items → next.reply.items ≡ c.reply.items → next.facts.items ≡ c.facts.items →
      next.lines ≡ c.lines → next.replies ≡ min (c.replies + 1) (2 ^ 64 - 1) → Compared setting next (lines ++ line ∷ [])
  far-reply next line reply number records numbered small same its_event_writer its_number its_line its_reply its_facts its_lines
      its_replies =
      let count : next.replies ≡ c.replies + 1 =
      count-up c.replies (length lines) number few.replies_few numbered small next.replies its_replies in
      record {
        pool = ap (λ (t : EventWriter). t.session.core.pool) its_event_writer ∙ far.pool;
        limits = ap (λ (t : EventWriter). t.session.core.limits) its_event_writer ∙ far.limits;
        scene = far.scene;
        kept = far.kept;
        agrees = subst (Agrees setting.pool (lines ++ line ∷ []))
            (sym (same-place far.scene far.kept next.number c.number next.line.items c.line.items next.reply.items c.reply.items
            next.facts.items c.facts.items next.lines c.lines next.replies (c.replies + 1) its_number its_line its_reply its_facts
            its_lines count))
            (Replies lines line reply (comparison_place c far.scene far.kept) far.agrees records same);
        knows = subst (λ (t : EventWriter). Knows t far.scene) (sym its_event_writer) far.knows;
        recalls = subst (λ (t : EventWriter). Recalls t far.kept) (sym its_event_writer) far.recalls;
      }

  -- one more reply was compared, and is another
  pub far-differs : (line reply text : List ℕ) → Records line reply → c.reply.items ≢ as_line reply → 0 < c.lines →
      text ≡ told_difference c.number c.line.items c.reply.items reply ++ indented c.facts.items →
      Difference setting (lines ++ line ∷ []) text
  far-differs line reply text records other some said = record {
    before = lines;
    line = line;
    after = [];
    split = refl;
    at = comparison_place c far.scene far.kept;
    agreed = far-agreed;
    some_played = some;
    reply = reply;
    records = records;
    differs = other;
    said = said;
  }

  -- a line was not played
  pub far-unplayed : (text line : List ℕ) (stop : LineStop) (number : ℕ) (fault : ReportFault) → text ≡ [] → is_indented line ≡ false →
      ((scene : Scene) → IsAt c.event_writer.session scene → IsStopped c.event_writer.session line scene stop) →
      IsFaultOf number stop fault →
      (stop ≡ LineStop.BadLine → act_in far.scene.names line ≡ None → GivesReason far.scene.names line fault) →
      number ≡ length lines + 1 → IsUnchecked setting lines text line fault
  far-unplayed text line stop number fault empty whole why is told numbered = (
    empty,
    inr (
      comparison_place c far.scene far.kept,
      far-agreed,
      inl (
        whole,
        rw (sym numbered) (why-in setting c.event_writer.session far.scene line far.pool far.limits number stop fault
            (why far.scene far.knows.is_at) is told),
      ),
    ),
  )

  -- a reply stands before the first line that is played
  pub far-unasked : (text line reply : List ℕ) (number : ℕ) (fault : ReportFault) → text ≡ [] → Records line reply → c.lines ≡ 0 →
      IsBadLine number fault → HasReason early_reason fault → number ≡ length lines + 1 → IsUnchecked setting lines text line fault
  far-unasked text line reply number fault empty records none is told numbered =
      (empty, inr (comparison_place c far.scene far.kept, far-agreed, inr (reply, records, none, rw (sym numbered) is, told)))

-- a difference among the first lines is one among all
difference-more : (setting : Setting) (lines all more : List (List ℕ)) → all ≡ lines ++ more → (text : List ℕ) →
    Difference setting lines text → Difference setting all text
difference-more setting lines all more is text other = record {
  before = other.before;
  line = other.line;
  after = other.after ++ more;
  split = is ∙ ap (λ front. front ++ more) other.split ∙ append_assoc other.before (other.line ∷ other.after) more;
  at = other.at;
  agreed = other.agreed;
  some_played = other.some_played;
  reply = other.reply;
  records = other.records;
  differs = other.differs;
  said = other.said;
}

module _ (first now : Comparison) (old : Option (List ℕ)) (script : List ℕ) where
  -- the setting of the core
  abbrev setting : Setting
  setting = setting_of first.event_writer.session

  -- a transcript that was not taken to its end was not compared to its end
  pub took-stops : (new : Option (List ℕ)) (fault : ReportFault) →
      ScriptStops (HasText (ComparedFrom first)) (WhyNot (ComparedFrom first) (Unchecked first) now) (ComparedFrom first now true) old new
      script fault → CheckStops setting old new script fault
  took-stops new fault stops = inl (stops-weaker (HasText (ComparedFrom first)) (Difference setting)
      (WhyNot (ComparedFrom first) (Unchecked first) now) (IsUnchecked setting) (ComparedFrom first now true) (AgreesSoFar setting)
      begins refuses
      (λ lines text compared. (compared.0, comparison_place now compared.1.scene compared.1.kept, far-agreed setting now lines compared.1))
      old new script fault stops)
    where
      -- there is text of a difference alone
      begins : (lines : List (List ℕ)) (text : List ℕ) → HasText (ComparedFrom first) lines text → Difference setting lines text
      begins lines text (some, at, true, compared) = absurd (some compared.0)
      begins lines text (some, at, false, compared) = compared

      -- memory was refused, or the comparison says why
      refuses : (lines : List (List ℕ)) (text line : List ℕ) (f : ReportFault) →
          WhyNot (ComparedFrom first) (Unchecked first) now lines text line f → IsUnchecked setting lines text line f
      refuses lines text line f (inl (none, at, compared)) = (compared.0, inl none)
      refuses lines text line f (inr unchecked) = unchecked

  -- a reply that differs was told, and the writer was flushed, or could not be
  pub differs-told : (mid new : Option (List ℕ)) (result : Result CheckResult ReportFault) →
      IsTaken (ComparedFrom first) now old mid script false → Keeps mid new → IfOk result (λ verdict. verdict ≡ CheckResult.Differs) →
      IfErr result IsWriteFault → CheckTold setting old new script result
  differs-told mid new result taken kept ok err = by result ok err
    where
      -- the text of the difference is out
      out : Appends old new taken.out.text
      out = Appends-kept old mid new taken.out.text taken.out.written kept

      -- it is one among all lines
      differs : Difference setting (whole_lines script) taken.out.text
      differs = difference-more setting taken.lines (whole_lines script) taken.after taken.split taken.out.text taken.out.is

      -- by cases on the outcome
      by : (r : Result CheckResult ReportFault) → IfOk r (λ verdict. verdict ≡ CheckResult.Differs) → IfErr r IsWriteFault →
          CheckTold setting old new script r
      by (Ok verdict) is fails = rw is (record { text = taken.out.text; is = differs; written = out })
      by (Err fault) is fails = inr (inl (
        fails,
        CheckResult.Differs,
        record {
          text = taken.out.text;
          is = differs;
          written = record { done = taken.out.text; rest = []; split = sym (append-nil taken.out.text); written = out };
        },
      ))

  -- all agrees, and that was told, or could not be
  pub agrees-told : (mid new : Option (List ℕ)) (result : Result CheckResult ReportFault) →
      IsTaken (ComparedFrom first) now old mid script true →
      ((scene : Scene) (kept : KeptLines) → VerdictTold (comparison_place now scene kept) mid new result) →
      CheckTold setting old new script result
  agrees-told mid new result taken tells = by result (tells far.scene far.kept)
    where
      -- all lines were compared
      far : Compared setting now (whole_lines script)
      far = subst (λ (ls : List (List ℕ)). Compared setting now ls)
          (sym (taken-whole (ComparedFrom first) now old mid script true taken refl)) taken.out.is.1

      -- nothing was written before
      behind : (text : List ℕ) → taken.out.text ++ text ≡ text
      behind text = ap (λ front. front ++ text) taken.out.is.0

      -- what is said of the place is a verdict
      verdict-of : (verdict : CheckResult) (text : List ℕ) → IsSaid verdict (comparison_place now far.scene far.kept) [] text →
          IsVerdict setting script text verdict
      verdict-of CheckResult.Agrees text said = record {
        ended = (taken.all refl).1;
        at = comparison_place now far.scene far.kept;
        agreed = far-agreed setting now (whole_lines script) far;
        said = said;
      }
      verdict-of CheckResult.Empty text said = record {
        ended = (taken.all refl).1;
        at = comparison_place now far.scene far.kept;
        agreed = far-agreed setting now (whole_lines script) far;
        said = said;
      }
      verdict-of CheckResult.Differs text said = absurd said

      -- by cases on the outcome
      by : (r : Result CheckResult ReportFault) → VerdictTold (comparison_place now far.scene far.kept) mid new r →
          CheckTold setting old new script r
      by (Ok verdict) out = record {
        text = out.text;
        is = verdict-of verdict out.text out.is;
        written = subst (Appends old new) (behind out.text) (Appends-trans old mid new taken.out.text out.text taken.out.written out.written);
      }
      by (Err fault) (inl (is, verdict, part)) = inr (inl (
        is,
        verdict,
        record {
          text = part.text;
          is = verdict-of verdict part.text part.is;
          written = subst (WritesPart old new) (behind part.text)
              (part-behind old mid new taken.out.text part.text taken.out.written part.written);
        },
      ))
      by (Err fault) (inr (none, same)) =
          inr (inr (none, subst (Appends old new) (behind []) (Appends-trans old mid new taken.out.text [] taken.out.written same)))

-- a status that tells the outcome, and a line that tells its fault
pub ends_checked : (setting : Setting) (left_before left old new told_before told : Option (List ℕ))
    (outcome : Result CheckResult ReportFault) (status : ℕ) → Checks setting left_before left old new outcome →
    status ≡ checking_status outcome → IsReported told_before told outcome →
    EndsChecked setting left_before left old new told_before told status
ends_checked setting left_before left old new told_before told outcome status checks is reported =
    record { outcome = outcome; checks = checks; status_is = is; reported = reported }

-- no line was compared
pub compared-none : (c : Comparison) → Knows c.event_writer first_scene → Recalls c.event_writer no_lines → c.number ≡ 0 →
    c.line.items ≡ [] → c.reply.items ≡ [] → c.facts.items ≡ [] → c.lines ≡ 0 → c.replies ≡ 0 →
    Compared (setting_of c.event_writer.session) c []
compared-none c knows recalls its_number its_line its_reply its_facts its_lines its_replies = record {
  pool = refl;
  limits = refl;
  scene = first_scene;
  kept = no_lines;
  agrees = subst (Agrees c.event_writer.session.core.pool [])
      (sym (same-place first_scene no_lines c.number 0 c.line.items [] c.reply.items [] c.facts.items [] c.lines 0 c.replies 0 its_number
      its_line its_reply its_facts its_lines its_replies)) Begins;
  knows = knows;
  recalls = recalls;
}

-- a line that nothing is behind two spaces of
pub behind-none : (line : List ℕ) → None ≡ behind_indent line → is_indented line ≡ false
behind-none line is = by (is_indented line) is
  where
    -- by cases on the test
    by : (t : Bool) → None ≡ (if t then Some (drop 2 line) else None) → t ≡ false
    by true e = absurd (cc)
    by false e = refl

-- what stands behind the two spaces of a line
pub behind-some : (line text : List ℕ) → Some text ≡ behind_indent line → (is_indented line ≡ true) × (text ≡ drop 2 line)
behind-some line text is = by (is_indented line) is
  where
    -- by cases on the test
    by : (t : Bool) → Some text ≡ (if t then Some (drop 2 line) else None) → (t ≡ true) × (text ≡ drop 2 line)
    by true e = (refl, cc)
    by false e = absurd (cc)

-- a line that is a remark
pub remark-from : (line text : List ℕ) → Some text ≡ behind_indent line → is_indented text ≡ true → IsRemark line
remark-from line text is more =
    let both = behind-some line text is in
    (both.0, subst (λ (t : List ℕ). is_indented t ≡ true) both.1 more)

-- a line that records a reply
pub records-from : (line text : List ℕ) → Some text ≡ behind_indent line → is_indented text ≡ false → Records line text
records-from line text is bare =
    let both = behind-some line text is in
    (both.0, subst (λ (t : List ℕ). is_indented t ≡ false) both.1 bare, both.1)
