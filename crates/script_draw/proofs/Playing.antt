-- A script that is played on by one line, or stops at it.
use Rattle.std.proofs.Common.{◌≡◌, ◌≢◌, ◌⊎◌, ℕ, zero, suc, ◌+◌, ◌<◌, ◌≤◌, ◌==◌, Bool, true, false, not, List, [], ◌∷◌, ◌++◌, length}
use Rattle.std.proofs.Common.{length-append, append-nil, refl, sym, ap, ◌∙◌, subst, Option, Some, None, inl, inr, arith}
use Rattle.std.proofs.lemmas.Bool.Decides.{nat_tests}
use Rattle.std.specs.Prelude.{Ok, Err, Result, IfErr, codes, nat_le}
use Rattle.std.specs.Option.{IfSome}
use Rattle.sm_names.specs.declared.messages.Call.{Call}
use Rattle.sm_names.specs.Bounds.{Bound}
use Rattle.sm_names.specs.Marks.{events}
use Rattle.sm_names.specs.Timelines.{timeline}
use Rattle.report_io.specs.declared.fault.ReportFault.{ReportFault}
use Rattle.report_io.specs.Faults.{GivesReason, IsFaultOf}
use Rattle.report_io.specs.IndentedLines.{is_indented, unindented}
use Rattle.sm_script.proofs.Settings.{legal-in}
use Rattle.report_io.specs.Takings.{Gains}
use Rattle.report_io.proofs.Unindented.{unindented-more, unindented-skip}
use Rattle.script_labels.specs.declared.act.Act.{Act}
use Rattle.script_labels.specs.declared.act.Binds.{Binds}
use Rattle.script_labels.specs.declared.stop.LineStop.{LineStop}
use Rattle.script_labels.specs.Names.{Names, act_in}
use Rattle.script_labels.specs.Tables.{Keeps}
use Rattle.sm_script.specs.Scenes.{Answers, Plays, Rests, Scene, Setting, as_line, first_scene, next_scene}
use Rattle.sm_script.specs.Sessions.{setting_of}
use Rattle.script_labels.specs.Texts.{reply_text, view_text}
use Rattle.sm_script.proofs.Playing.{plays-more}
use Rattle.event_facts.specs.declared.event.Event.{Event}
use Rattle.event_texts.specs.Called.{Knows}
use Rattle.event_texts.specs.Failing.{failures}
use Rattle.picture_model.specs.PictureStates.{HasSeen, NoneSeen, OneSeen, known_in}
use Rattle.picture_model.proofs.Showing.{knows-none}
use Rattle.script_draw.specs.Draws.{IsLast}
use Rattle.script_draw.specs.declared.draw.Scroll.{Scroll}
use Rattle.report_io.specs.declared.view.Until.{Until}
use Rattle.script_draw.specs.Played.{ComesBefore, IsAhead, IsWithin, Played, Begins, Passes, Looks, Makes}
use Rattle.script_draw.specs.Played.{LeadsToScene, WasAhead, asked_number, found, is_call, is_reached, none_wanted}
use Rattle.script_draw.specs.Reached.{AsksFor, IsHeldUp, IsMet, LineMakesCall, PlayedFrom, PlaysLine, Reached, TakesIn, Unplayed}

-- a line that makes no event gives some text, and changes nothing
looked : (pool : ℕ) (scene : Scene) (line : List ℕ) (act : Act) → act_in scene.names line ≡ Some act → is_call act ≡ false →
    (text : List ℕ) × Answers pool scene line text scene
looked pool scene line Act.Nothing good is = ([], record { act = Act.Nothing; good = good; gives = (refl, refl) })
looked pool scene line (Act.Ask client call binds) good is = absurd (cc)
looked pool scene line (Act.Poll tracker) good is = (
  as_line (codes "quiet"),
  record { act = Act.Poll tracker; good = good; gives = (codes "quiet", inl refl, refl, refl) },
)
looked pool scene line (Act.Show view) good is = (
  as_line (view_text pool (timeline pool scene.history) scene.names view),
  record { act = Act.Show view; good = good; gives = (refl, refl) },
)

-- the lines that are not indented are played, one after another
pub played-plays : (pool : ℕ) (lines : List (List ℕ)) (scene : Scene) (last : List ℕ) → Played lines scene last →
    (texts : List ℕ) × Plays pool first_scene (unindented lines) texts scene
played-plays pool lines scene last Begins = ([], Rests first_scene)
played-plays pool lines scene last (Passes before line before_last there so_far skip) =
    let rest = played-plays pool before there before_last so_far in (
      rest.0,
      subst (λ (ls : List (List ℕ)). Plays pool first_scene ls rest.0 there) (sym (unindented-skip before line skip)) rest.1,
    )
played-plays pool lines scene last (Looks before line before_last there act so_far whole good is) =
    let rest = played-plays pool before there before_last so_far in
    let look = looked pool there line act good is in (
      rest.0 ++ look.0,
      subst (λ (ls : List (List ℕ)). Plays pool first_scene ls (rest.0 ++ look.0) there) (sym (unindented-more before line whole))
          (plays-more pool first_scene there there (unindented before) rest.0 line look.0 rest.1 look.1),
    )
played-plays pool lines scene last (Makes before line before_last there client call binds reply so_far whole good) =
    let rest = played-plays pool before there before_last so_far in
    let text = as_line (reply_text there.names binds reply) in
    let next = next_scene there client call binds reply in (
      rest.0 ++ text,
      subst (λ (ls : List (List ℕ)). Plays pool first_scene ls (rest.0 ++ text) next) (sym (unindented-more before line whole))
          (plays-more pool first_scene there next (unindented before) rest.0 line text rest.1
          (record { act = Act.Ask client call binds; good = good; gives = (reply, refl, refl) })),
    )

-- zero is the least number
least : (n : ℕ) → 0 ≤ n
least n = omega arith

-- a count below a number, that grows by one at most, does not exceed it
grown-within : (a b n : ℕ) → a < n → b ≤ a + 1 → b ≤ n
grown-within a b n before few = omega (arith, before, few)

-- nothing is no more than is asked for
within-none : (until : Until) (pool : ℕ) → IsWithin (asked_number until) (found until pool [] first_scene)
within-none Until.Last pool = tt
within-none (Until.Event number) pool = least number
within-none (Until.Line number) pool = least number
within-none (Until.Failure number) pool = least number

-- one more line, without an event or with one in which nodes may have failed, where fewer were found than are asked for
within-more : (until : Until) (pool : ℕ) (lines : List (List ℕ)) (line : List ℕ) (scene next : Scene) →
    length next.history ≤ length scene.history + 1 →
    failures (timeline pool next.history) ≤ failures (timeline pool scene.history) + 1 → IsAhead until pool lines scene →
    IsWithin (asked_number until) (found until pool (lines ++ line ∷ []) next)
within-more Until.Last pool lines line scene next one few ahead = tt
within-more (Until.Event number) pool lines line scene next one few ahead =
    grown-within (length scene.history) (length next.history) number ahead one
within-more (Until.Line number) pool lines line scene next one few ahead =
    let count = length-append lines (line ∷ []) in
    grown-within (length lines) (length (lines ++ line ∷ [])) number ahead (omega (arith, count))
within-more (Until.Failure number) pool lines line scene next one few ahead =
    grown-within (failures (timeline pool scene.history)) (failures (timeline pool next.history)) number ahead few

-- a number is no more than the next
no-more : (n : ℕ) → n ≤ n + 1
no-more n = omega arith

-- a count that is the next number is no more than that
one-more : (n m : ℕ) → m ≡ n + 1 → m ≤ n + 1
one-more n m is = omega (arith, is)

module _ (until : Until) (number pool : ℕ) (lines : List (List ℕ)) (scene : Scene) where
  -- nothing reaches what is not asked for
  pub at-last : until ≡ Until.Last → false ≡ is_reached (asked_number until) (found until pool lines scene)
  at-last is = rw is refl

  -- an event is reached where there are as many
  pub at-event : until ≡ Until.Event number → (n : ℕ) → n ≡ length scene.history →
      (number == n) ≡ is_reached (asked_number until) (found until pool lines scene)
  at-event is n count = rw is (ap (λ (k : ℕ). number == k) count)

  -- a line is reached where there are as many
  pub at-line : until ≡ Until.Line number → (n : ℕ) → n ≡ length lines →
      (number == n) ≡ is_reached (asked_number until) (found until pool lines scene)
  at-line is n count = rw is (ap (λ (k : ℕ). number == k) count)

  -- a failure is reached where there are as many
  pub at-failure : until ≡ Until.Failure number → (n : ℕ) → n ≡ failures (timeline pool scene.history) →
      (number == n) ≡ is_reached (asked_number until) (found until pool lines scene)
  at-failure is n count = rw is (ap (λ (k : ℕ). number == k) count)

-- it is not as many that were found
pub ahead-of : (asked : Option ℕ) (n : ℕ) → IsWithin asked n → is_reached asked n ≡ false → ComesBefore asked n
ahead-of None n within test = tt
ahead-of (Some at) n within test = grind (arith, nat_tests)

-- as many were found as are asked for
pub reached-is : (at n : ℕ) → is_reached (Some at) n ≡ true → n ≡ at
reached-is at n test = grind (arith, nat_tests)

-- a count that grew by one at most, under other names
same-few : (a b c d : ℕ) → a ≡ c → b ≡ d → b ≤ a + 1 → d ≤ c + 1
same-few a b c d p q few = omega (arith, p, q, few)

-- the lines were played, and before the last of them fewer were found than are asked for
abbrev PlayedAhead : Until → ℕ → List (List ℕ) → Scene → List ℕ → Type 0
PlayedAhead until pool lines scene last = (played : Played lines scene last) × WasAhead until pool lines scene last played

-- where some is wanted, none is found at first
ahead-none : (until : Until) (pool : ℕ) → none_wanted until ≡ None → IsAhead until pool [] first_scene
ahead-none Until.Last pool some = tt
ahead-none (Until.Event zero) pool some = absurd (cc)
ahead-none (Until.Event (suc number)) pool some = omega arith
ahead-none (Until.Line zero) pool some = absurd (cc)
ahead-none (Until.Line (suc number)) pool some = omega arith
ahead-none (Until.Failure zero) pool some = absurd (cc)
ahead-none (Until.Failure (suc number)) pool some = omega arith

-- no line was played
pub far-none : (scroll : Scroll) → scroll.limits ≡ scroll.event_writer.session.core.limits → Knows scroll.event_writer first_scene →
    scroll.line.items ≡ [] → scroll.event ≡ None → ((id : ℕ) → known_in scroll.picture_state id ≡ []) →
    none_wanted scroll.until ≡ None → PlayedFrom scroll scroll true [] []
far-none scroll bound knows none quiet blank some =
    let pool : ℕ = scroll.event_writer.session.core.pool in
    let so_far : PlayedAhead scroll.until pool [] first_scene scroll.line.items =
    subst (PlayedAhead scroll.until pool [] first_scene) (sym none) (Begins, tt) in (
      refl,
      refl,
      record {
        pool = refl;
        limits = refl;
        bound = bound;
        scene = first_scene;
        played = so_far.0;
        knows = knows;
        kept = knows-none scroll.event_writer.session.core scroll.picture_state knows.is_at.shows;
        seen = NoneSeen (known_in scroll.picture_state) blank;
        last = subst (IsLast pool []) (sym quiet) refl;
        within = within-none scroll.until pool;
        ahead = so_far.1;
      },
      ahead-none scroll.until pool some,
    )

module _ (setting : Setting) (until : Until) (scroll : Scroll) (lines : List (List ℕ)) (far : Reached setting until scroll lines) where
  -- the lines so far lead to the scene
  abbrev pub far-reaches : LeadsToScene setting lines far.scene scroll.line.items
  far-reaches = record {
    played = far.played;
    texts = (played-plays setting.pool lines far.scene scroll.line.items far.played).0;
    leads = record {
      plays = (played-plays setting.pool lines far.scene scroll.line.items far.played).1;
      legal = legal-in setting scroll.event_writer.session far.scene far.pool far.limits far.knows.is_at;
    };
  }

  module _ (before : IsAhead until setting.pool lines far.scene) where
    -- an indented line is passed over
    pub far-pass : (line : List ℕ) → is_indented line ≡ true → Reached setting until scroll (lines ++ line ∷ [])
    far-pass line skip = record {
      pool = far.pool;
      limits = far.limits;
      bound = far.bound;
      scene = far.scene;
      played = Passes lines line scroll.line.items far.scene far.played skip;
      knows = far.knows;
      kept = far.kept;
      seen = far.seen;
      last = far.last;
      within = within-more until setting.pool lines line far.scene far.scene (no-more _) (no-more _) before;
      ahead = before;
    }

    -- a line that makes no event changes nothing
    pub far-look : (line : List ℕ) (act : Act) → is_indented line ≡ false → act_in far.scene.names line ≡ Some act → is_call act ≡ false →
        Reached setting until scroll (lines ++ line ∷ [])
    far-look line act whole good is = record {
      pool = far.pool;
      limits = far.limits;
      bound = far.bound;
      scene = far.scene;
      played = Looks lines line scroll.line.items far.scene act far.played whole good is;
      knows = far.knows;
      kept = far.kept;
      seen = far.seen;
      last = far.last;
      within = within-more until setting.pool lines line far.scene far.scene (no-more _) (no-more _) before;
      ahead = before;
    }

    -- one more line made an event
    pub far-make : (next : Scroll) (line : List ℕ) (client : ℕ) (call : Call) (binds : Binds) → is_indented line ≡ false →
        act_in far.scene.names line ≡ Some (Act.Ask client call binds) → LineMakesCall scroll next client call binds line →
        Reached setting until next (lines ++ line ∷ [])
    far-make next line client call binds whole good made =
        let event = made.made.event in
        let scene = next_scene far.scene client call binds event.reply in
        let knows : Knows next.event_writer scene = made.made.knows far.scene far.knows in
        let same = made.setting far.scene far.knows.is_at in
        let pool_is : next.event_writer.session.core.pool ≡ setting.pool = same.pool ∙ far.pool in
        let counted : next.event_writer.failures ≡ failures (timeline setting.pool scene.history) =
        knows.failed ∙ ap (λ (p : ℕ). failures (timeline p scene.history)) pool_is in
        let counted_before : scroll.event_writer.failures ≡ failures (timeline setting.pool far.scene.history) =
        far.knows.failed ∙ ap (λ (p : ℕ). failures (timeline p far.scene.history)) far.pool in
        let so_far : PlayedAhead until setting.pool (lines ++ line ∷ []) scene next.line.items =
        subst (PlayedAhead until setting.pool (lines ++ line ∷ []) scene) (sym made.line_is)
        (Makes lines line scroll.line.items far.scene client call binds event.reply far.played whole good, before) in
        record {
          pool = pool_is;
          limits = same.limits ∙ far.limits;
          bound = made.limits ∙ far.bound;
          scene = scene;
          played = so_far.0;
          knows = knows;
          kept = made.kept far.scene far.knows far.kept;
          seen = OneSeen far.scene.history (known_in scroll.picture_state) (known_in next.picture_state)
              scroll.event_writer.session.core next.event_writer.session.core client call event far.seen far.knows.is_at.shows far.pool
              made.made.is knows.is_at.shows pool_is
              (subst (λ (last : Option Event). IfSome last (TakesIn scroll next call)) made.made.kept made.seen);
          last = subst (IsLast setting.pool scene.history) (sym made.made.kept) (record {
            before = scroll.event_writer.session.core;
            pool_is = far.pool;
            earlier = far.scene.history;
            shows = far.knows.is_at.shows;
            client = client;
            call = call;
            is = made.made.is;
            whole = refl;
          });
          within = within-more until setting.pool lines line far.scene scene
              (one-more (length far.scene.history) (length scene.history)
              (length-append far.scene.history ((client, call, event.reply) ∷ [])))
              (same-few scroll.event_writer.failures next.event_writer.failures _ _ counted_before counted made.failures) before;
          ahead = so_far.1;
        }

-- a bad line and a refusal of memory are different reasons to stop
pub bad-memory : LineStop.BadLine ≡ LineStop.NoMemory → ⊥
bad-memory e = cc

-- a full history and a refusal of memory are different reasons to stop
full-memory : LineStop.HistoryFull ≡ LineStop.NoMemory → ⊥
full-memory e = cc

-- why a line was not played, wherever the play is
abbrev pub IsHeld : Scroll → List ℕ → LineStop → Type 0
IsHeld scroll line stop = (setting : Setting) (until : Until) (lines : List (List ℕ)) (far : Reached setting until scroll lines) →
    IsHeldUp setting far.scene line stop

-- the line of this number was not played: memory was refused, or nothing changed
pub play-stop : (old new : Scroll) (line : List ℕ) (stop : LineStop) → (stop ≢ LineStop.NoMemory → new ≡ old) → IsHeld old line stop →
    (number : ℕ) (fault : ReportFault) → IsFaultOf number stop fault →
    ((names : Names) → Keeps new.event_writer.session.tables names → act_in names line ≡ None → GivesReason names line fault) →
    (fault ≡ ReportFault.NoMemory) ⊎ ((first : Scroll) (lines : List (List ℕ)) (text : List ℕ) → PlayedFrom first old true lines text →
    number ≡ length lines + 1 → Unplayed first new lines text line fault)
play-stop old new line stop same why number ReportFault.ReadFault is known = absurd is
play-stop old new line stop same why number ReportFault.TooLong is known = absurd is
play-stop old new line stop same why number (ReportFault.WriteFault failed) is known = absurd is
play-stop old new line stop same why number (ReportFault.Missing sought n) is known = absurd is
play-stop old new line stop same why number ReportFault.NoMemory is known = inl refl
play-stop old new line stop same why number (ReportFault.BadLine n reason) is known = inr (λ first lines text played numbered.
    let far = played.2 in
    let kept = same (λ e. bad-memory (sym is.0 ∙ e)) in
    let held = subst (IsHeldUp (setting_of first.event_writer.session) far.scene line) is.0 (why _ first.until lines far) in
    subst (λ (s : Scroll). Unplayed first s lines text line (ReportFault.BadLine n reason)) (sym kept) (
      played.0,
      held.0,
      far,
      played.3,
      (
        held.1,
        is.1 ∙ numbered,
        known far.scene.names
            (subst (λ (s : Scroll). Keeps s.event_writer.session.tables far.scene.names) (sym kept) far.knows.is_at.keeps) held.1,
      ),
    ))
play-stop old new line stop same why number ReportFault.HistoryFull is known = inr (λ first lines text played numbered.
    let far = played.2 in
    let held = subst (IsHeldUp (setting_of first.event_writer.session) far.scene line) is (why _ first.until lines far) in
    subst (λ (s : Scroll). Unplayed first s lines text line ReportFault.HistoryFull) (sym (same (λ e. full-memory (sym is ∙ e))))
    (played.0, held.0, far, played.3, held.1))

-- whether what is asked for was met, by the test for it
met-by : (found_it : Bool) (until : Until) (pool : ℕ) (lines : List (List ℕ)) (scene : Scene) →
    IsWithin (asked_number until) (found until pool lines scene) →
    found_it ≡ is_reached (asked_number until) (found until pool lines scene) → IsMet (not found_it) until pool lines scene
met-by true until pool lines scene within is = sym is
met-by false until pool lines scene within is = ahead-of (asked_number until) (found until pool lines scene) within (sym is)

-- one more line was played, of which nothing is told
pub play-on : (first old new : Scroll) (lines : List (List ℕ)) (whole text line : List ℕ) → PlayedFrom first old true lines whole →
    PlaysLine old new line → new.until ≡ old.until → (found_it : Bool) →
    ((setting : Setting) (played : List (List ℕ)) (far : Reached setting new.until new played) → length lines + 1 ≡ length played →
    found_it ≡ is_reached (asked_number new.until) (found new.until setting.pool played far.scene)) →
    Gains (PlayedFrom first new (not found_it) (lines ++ line ∷ [])) whole text text
play-on first old new lines whole text line played plays same found_it tests =
    let setting : Setting = setting_of first.event_writer.session in
    let all : List (List ℕ) = lines ++ line ∷ [] in
    let until_is : new.until ≡ first.until = same ∙ played.1 in
    let far : Reached setting first.until new all = plays setting first.until lines played.2 played.3 in
    let test = subst (λ (u : Until). (far : Reached setting u new all) →
    found_it ≡ is_reached (asked_number u) (found u setting.pool all far.scene)) until_is
    (λ there. tests setting all there (sym (length-append lines (line ∷ [])))) far in (
      [],
      sym (append-nil text),
      (
        append-nil whole ∙ played.0,
        until_is,
        far,
        met-by found_it first.until setting.pool all far.scene far.within test,
      ),
    )

-- why a line that asks for the act was not played
abbrev pub HeldUp : Scroll → List ℕ → Act → LineStop → Type 0
HeldUp scroll line act stop = (setting : Setting) (until : Until) (lines : List (List ℕ)) (far : Reached setting until scroll lines) →
    AsksFor far.scene line act → IsHeldUp setting far.scene line stop

-- what fails for want of memory alone says nothing of the line
pub held-made : (result : Result (Unit {0}) LineStop) (scroll : Scroll) (line : List ℕ) (act : Act) →
    IfErr result (λ stop. stop ≡ LineStop.NoMemory) → IfErr result (HeldUp scroll line act)
held-made (Ok done) scroll line act is = tt
held-made (Err stop) scroll line act is = λ setting until lines far asks. subst (IsHeldUp setting far.scene line) (sym is) tt

-- the line asks for the act
pub held-on : (result : Result (Unit {0}) LineStop) (scroll : Scroll) (line : List ℕ) (act : Act) →
    ((setting : Setting) (until : Until) (lines : List (List ℕ)) (far : Reached setting until scroll lines) → AsksFor far.scene line act) →
    IfErr result (HeldUp scroll line act) →
    IfErr result (λ stop. (setting : Setting) (until : Until) (lines : List (List ℕ)) (far : Reached setting until scroll lines) →
    IsHeldUp setting far.scene line stop)
held-on (Ok done) scroll line act asks held = tt
held-on (Err stop) scroll line act asks held = λ setting until lines far. held setting until lines far (asks setting until lines far)

-- as many events were made as may be
pub held-full : (setting : Setting) (until : Until) (scroll : Scroll) (lines : List (List ℕ)) (far : Reached setting until scroll lines)
    (line : List ℕ) (client : ℕ) (call : Call) (binds : Binds) → is_indented line ≡ false →
    act_in far.scene.names line ≡ Some (Act.Ask client call binds) →
    nat_le scroll.limits.events scroll.event_writer.session.core.events ≡ true → IsHeldUp setting far.scene line LineStop.HistoryFull
held-full setting until scroll lines far line client call binds whole good full =
    let most : scroll.limits.events ≤ scroll.event_writer.session.core.events = grind (arith, nat_tests) in (
      whole,
      record {
        client = client;
        call = call;
        binds = binds;
        asks = good;
        full =
            subst (λ (p : ℕ). setting.limits.events ≤ events (timeline p far.scene.history)) far.pool
            (subst (λ (n : ℕ). setting.limits.events ≤ n) far.knows.is_at.shows.shown.events
            (subst (λ (l : Bound). l.events ≤ scroll.event_writer.session.core.events) far.bound most));
      },
    )
