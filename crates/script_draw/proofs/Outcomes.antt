-- The outcome of a drawing once its picture is written.
use Rattle.std.proofs.Common.{◌≡◌, ◌≢◌, ◌⊎◌, ℕ, zero, suc, ◌+◌, ◌<◌, Bool, true, false, List, [], ◌∷◌, ◌++◌, length, append-nil, refl, sym, ap, ◌∙◌, subst}
use Rattle.std.proofs.Common.{Option, Some, None, inl, inr, arith}
use Rattle.std.proofs.KnownBytes.{Appends-trans, Keeps-trans}
use Rattle.std.specs.Prelude.{Ok, Err, IfErr, OnOk, Result, option_map}
use Rattle.std.specs.Io.KnownBytes.{Appends, Keeps}
use Rattle.script_lines.specs.Pieces.{whole_lines, last_part}
use Rattle.script_lines.specs.Written.{WritesPart}
use Rattle.report_io.specs.declared.fault.ReportFault.{ReportFault}
use Rattle.report_io.specs.declared.fault.Sought.{Sought}
use Rattle.report_io.specs.Faults.{HasReason, IsBadLine, IsWriteFault}
use Rattle.report_io.specs.Reasons.{unended_reason}
use Rattle.report_io.specs.Takings.{AtLine, IsTaken, WhyNot, Writes}
use Rattle.report_io.proofs.Reporting.{write_fault_is}
use Rattle.report_io.proofs.Takings.{part-behind, taken-whole}
use Rattle.script_labels.specs.Names.{Names}
use Rattle.sm_script.specs.Runs.{IsWhy}
use Rattle.sm_script.specs.Scenes.{Scene, Setting}
use Rattle.sm_script.specs.Sessions.{setting_of}
use Rattle.script_labels.specs.Tables.{Keeps as KeepsNames}
use Rattle.event_texts.specs.Called.{Calls}
use Rattle.report_io.specs.declared.view.Format.{Format}
use Rattle.script_draw.specs.declared.draw.Scroll.{Scroll}
use Rattle.report_io.specs.declared.view.View.{View}
use Rattle.report_io.specs.declared.view.Until.{Until}
use Rattle.script_draw.specs.Draws.{AreAll, IsLeftOf, IsPicture, LinesDrawn, PictureBefore, Pictures, PictureStops, PictureTold}
use Rattle.script_draw.specs.Played.{ComesBefore, IsAhead, LeadsToScene, asked_number, found, is_reached, none_of, none_wanted, wanted}
use Rattle.script_draw.specs.Reached.{PlayedFrom, PlayStops, Reached, Unplayed, stops_at_line}
use Rattle.sm_names.specs.Marks.{Entry}
use Rattle.core_state.specs.Shown.{Shows}
use Rattle.picture_model.specs.PictureStates.{HasSeen, KnowsKept, known_in}
use Rattle.script_draw.proofs.Playing.{far-reaches, reached-is}

-- a picture of the core is one of what happened so far
pub pictures-so-far : (format : Format) (setting : Setting) (until : Until) (scroll : Scroll) (lines : List (List ℕ))
    (far : Reached setting until scroll lines) (blank text : List ℕ) → blank ≡ [] →
    ((names : Names) → KeepsNames scroll.event_writer.session.tables names → Calls scroll.event_writer.labels names → blank ≡ [] →
    (history : List Entry) → Shows scroll.event_writer.session.core history →
    KnowsKept scroll.event_writer.session.core scroll.picture_state →
    HasSeen scroll.event_writer.session.core.pool history (known_in scroll.picture_state) →
    IsPicture format scroll.event_writer.session.core history names scroll.line.items scroll.event text) →
    Pictures format setting far.scene scroll.line.items text
pictures-so-far format setting until scroll lines far blank text none on = record {
  core = scroll.event_writer.session.core;
  shows = far.knows.is_at.shows;
  pool = far.pool;
  event = scroll.event;
  behind = far.last;
  picture = on far.scene.names far.knows.is_at.keeps far.knows.calls none far.scene.history far.knows.is_at.shows far.kept
      (subst (λ (p : ℕ). HasSeen p far.scene.history (known_in scroll.picture_state)) (sym far.pool) far.seen);
}

-- nothing was added
kept-none : (old new : Option (List ℕ)) (text : List ℕ) → text ≡ [] → Appends old new text → Keeps old new
kept-none None new text none out = tt
kept-none (Some xs) None text none out = absurd out
kept-none (Some xs) (Some ys) text none out = out ∙ ap (λ back. xs ++ back) none ∙ append-nil xs

-- what comes of a picture is the same where nothing was written before
told-behind : (format : Format) (setting : Setting) (scene : Scene) (last : List ℕ) (old mid new : Option (List ℕ)) (text : List ℕ) →
    text ≡ [] → Appends old mid text → (result : Result (Unit {0}) ReportFault) → PictureTold format setting scene last mid new result →
    PictureTold format setting scene last old new result
told-behind format setting scene last old mid new text none before (Ok done) out = record {
  text = out.text;
  is = out.is;
  written = subst (λ (front : List ℕ). Appends old new (front ++ out.text)) none
      (Appends-trans old mid new text out.text before out.written);
}
told-behind format setting scene last old mid new text none before (Err fault) (inl (is, part)) = inl (
  is,
  record {
    text = part.text;
    is = part.is;
    written = subst (λ (front : List ℕ). WritesPart old new (front ++ part.text)) none
        (part-behind old mid new text part.text before part.written);
  },
)
told-behind format setting scene last old mid new text none before (Err fault) (inr (is, kept)) =
    inr (is, Keeps-trans old mid new (kept-none old mid text none before) kept)

module _ (format : Format) (first now : Scroll) (old new : Option (List ℕ)) (script : List ℕ) where
  -- what the core is made for, and what is drawn
  abbrev setting : Setting
  setting = setting_of first.event_writer.session

  abbrev view : View
  view = record { format = format; until = first.until }

  module _ (lines after : List (List ℕ)) (split : whole_lines script ≡ lines ++ after) (far : Reached setting first.until now lines) where
    -- no whole picture was written
    cut-off : (fault : ReportFault) → PictureTold format setting far.scene now.line.items old new (Err fault) →
        PictureStops setting view old new script fault
    cut-off fault (inl (is, part)) = rw (write_fault_is fault is).1 (record {
      before = lines;
      after = after;
      split = split;
      at = record {
        scene = far.scene;
        last = now.line.items;
        reaches = far-reaches setting first.until now lines far;
        at = part;
      };
    })
    cut-off fault (inr (is, kept)) = rw is kept

    -- the picture was drawn, or was not
    drawn-by : AreAll (asked_number first.until) script lines (found first.until setting.pool lines far.scene) →
        (result : Result (Unit {0}) ReportFault) → PictureTold format setting far.scene now.line.items old new result →
        LinesDrawn setting view old new script result
    drawn-by all (Ok done) out = record {
      lines = lines;
      after = after;
      split = split;
      scene = far.scene;
      last = now.line.items;
      reaches = far-reaches setting first.until now lines far;
      all = all;
      soonest = far.ahead;
      pictured = out;
    }
    drawn-by all (Err fault) stop = cut-off fault stop

-- where none of what is sought is wanted, its number is 0
pub none-is : (w : Option (Sought × ℕ)) (sought : Sought) → none_of w ≡ Some sought → w ≡ Some (sought, 0)
none-is None sought is = absurd (cc)
none-is (Some (other, zero)) sought is = cc
none-is (Some (other, suc number)) sought is = absurd (cc)

-- a number of which some is wanted is not 0
some-number : (sought : Sought) (number : ℕ) → none_of (Some (sought, number)) ≡ None → 0 < number
some-number sought zero some = absurd (cc)
some-number sought (suc number) some = omega arith

module _ (format : Format) (first now : Scroll) (old mid : Option (List ℕ)) (script : List ℕ) where
  -- what is drawn
  abbrev shown : View
  shown = record { format = format; until = first.until }

  -- the setting of the play
  abbrev played_in : Setting
  played_in = setting_of first.event_writer.session

  -- how many of what is sought some lines have
  abbrev count : List (List ℕ) → Scene → ℕ
  count lines scene = found first.until played_in.pool lines scene

  -- all lines were played where the last is asked for: nothing else can be reached
  all-last : (more : Bool) (taken : IsTaken (PlayedFrom first) now old mid script more) → asked_number first.until ≡ None →
      AreAll (asked_number first.until) script taken.lines (count taken.lines taken.out.is.2.scene)
  all-last true taken none = subst (λ (n : Option ℕ). AreAll n script taken.lines (count taken.lines taken.out.is.2.scene)) (sym none)
      (sym (taken-whole (PlayedFrom first) now old mid script true taken refl), (taken.all refl).1)
  all-last false taken none =
      let never : is_reached None (count taken.lines taken.out.is.2.scene) ≡ true =
      subst (λ (n : Option ℕ). is_reached n (count taken.lines taken.out.is.2.scene) ≡ true) none taken.out.is.3 in
      absurd (cc)

  -- the lines up to what is asked for were played
  all-found : (taken : IsTaken (PlayedFrom first) now old mid script false) (sought : Sought) (number : ℕ) →
      wanted first.until ≡ Some (sought, number) → none_wanted first.until ≡ None →
      AreAll (asked_number first.until) script taken.lines (count taken.lines taken.out.is.2.scene)
  all-found taken sought number is some =
      let number_is : asked_number first.until ≡ Some number = ap (option_map (λ (w : Sought × ℕ). w.1)) is in
      subst (λ (n : Option ℕ). AreAll n script taken.lines (count taken.lines taken.out.is.2.scene)) (sym number_is) (
        reached-is number (count taken.lines taken.out.is.2.scene)
            (subst (λ (n : Option ℕ). is_reached n (count taken.lines taken.out.is.2.scene) ≡ true) number_is taken.out.is.3),
        some-number sought number (ap none_of (sym is) ∙ some),
      )

  module _ (new : Option (List ℕ)) (result : Result (Unit {0}) ReportFault) (more : Bool)
      (taken : IsTaken (PlayedFrom first) now old mid script more)
      (told : PictureTold format played_in taken.out.is.2.scene now.line.items mid new result) where
    -- the picture of the lines that are asked for
    drawn-of : AreAll (asked_number first.until) script taken.lines (count taken.lines taken.out.is.2.scene) →
        LinesDrawn played_in shown old new script result
    drawn-of all = drawn-by format first now old new script taken.lines taken.after taken.split taken.out.is.2 all result
        (told-behind format played_in taken.out.is.2.scene now.line.items old mid new taken.out.text taken.out.is.0 taken.out.written
        result told)

    -- the last line is asked for
    pub drawn-last : wanted first.until ≡ None → LinesDrawn played_in shown old new script result
    drawn-last is = drawn-of (all-last more taken (ap (option_map (λ (w : Sought × ℕ). w.1)) is))

    -- what is asked for was reached
    pub drawn-found : more ≡ false → (sought : Sought) (number : ℕ) → wanted first.until ≡ Some (sought, number) →
        none_wanted first.until ≡ None → LinesDrawn played_in shown old new script result
    drawn-found met sought number is some = by more met taken drawn-of
      where
        -- where no more lines are played
        by : (m : Bool) → m ≡ false → (t : IsTaken (PlayedFrom first) now old mid script m) →
            (AreAll (asked_number first.until) script t.lines (count t.lines t.out.is.2.scene) → LinesDrawn played_in shown old new script
            result) → LinesDrawn played_in shown old new script result
        by true m t on = absurd (cc)
        by false m t on = on (all-found t sought number is some)

  -- it was not reached by all lines
  pub none-reached : (taken : IsTaken (PlayedFrom first) now old mid script true) (sought : Sought) (number : ℕ) →
      wanted first.until ≡ Some (sought, number) → LinesDrawn played_in shown old mid script (Err (ReportFault.Missing sought number))
  none-reached taken sought number asked =
      let all = sym (taken-whole (PlayedFrom first) now old mid script true taken refl) in
      let far = taken.out.is.2 in
      record {
        asked = asked;
        none = inr (
          (taken.all refl).1,
          record {
            scene = far.scene;
            last = now.line.items;
            reaches = subst (λ (ls : List (List ℕ)). LeadsToScene played_in ls far.scene now.line.items) all
                (far-reaches played_in first.until now taken.lines far);
            at = subst (λ (ls : List (List ℕ)). count ls far.scene < number) all
                (subst (λ (n : Option ℕ). ComesBefore n (count taken.lines far.scene)) (ap (option_map (λ (w : Sought × ℕ). w.1)) asked)
                taken.out.is.3);
          },
        );
        kept = kept-none old mid taken.out.text taken.out.is.0 taken.out.written;
      }

  -- a fault that is told with a reason of a line is one of a line, or memory was refused
  why-says : (scene : Scene) (line : List ℕ) (number : ℕ) (fault : ReportFault) → IsWhy played_in scene line number fault →
      (fault ≡ ReportFault.NoMemory) ⊎ (stops_at_line fault ≡ true)
  why-says scene line number (ReportFault.BadLine n reason) why = inr refl
  why-says scene line number ReportFault.HistoryFull why = inr refl
  why-says scene line number ReportFault.NoMemory why = inl refl
  why-says scene line number ReportFault.ReadFault why = absurd why
  why-says scene line number ReportFault.TooLong why = absurd why
  why-says scene line number (ReportFault.WriteFault failed) why = absurd why
  why-says scene line number (ReportFault.Missing sought n) why = absurd why

  -- the same of the last line
  last-says : (number : ℕ) (fault : ReportFault) → IsBadLine number fault → (fault ≡ ReportFault.NoMemory) ⊎ (stops_at_line fault ≡ true)
  last-says number (ReportFault.BadLine n reason) is = inr refl
  last-says number ReportFault.NoMemory is = inl refl
  last-says number ReportFault.HistoryFull is = absurd is
  last-says number ReportFault.ReadFault is = absurd is
  last-says number ReportFault.TooLong is = absurd is
  last-says number (ReportFault.WriteFault failed) is = absurd is
  last-says number (ReportFault.Missing sought n) is = absurd is

  -- where a line stopped the script: behind these lines
  pub record Stopped (fault : ReportFault) : Type 0 where
    lines : List (List ℕ)
    after : List (List ℕ)
    split : whole_lines script ≡ lines ++ after
    far : Reached played_in first.until now lines
    stops : (new : Option (List ℕ)) → (IsAhead first.until played_in.pool lines far.scene →
        IsLeftOf played_in shown old new lines far.scene now.line.items) → PictureStops played_in shown old new script fault

  -- a line was not played
  unplayed : (fault : ReportFault) (stop : AtLine (λ before line. Writes (λ text. WhyNot (PlayedFrom first) (Unplayed first) now before text
      line fault) old mid) (whole_lines script)) → stops_at_line fault ≡ true →
      Unplayed first now stop.before stop.at.text stop.line fault → Stopped fault
  unplayed fault stop test (empty, whole, far, ahead, why) = record {
    lines = stop.before;
    after = stop.line ∷ stop.after;
    split = stop.split;
    far = far;
    stops = λ new left. by new (left ahead) fault test why;
  }
    where
      -- by cases on the fault
      by : (new : Option (List ℕ)) → IsLeftOf played_in shown old new stop.before far.scene now.line.items → (f : ReportFault) →
          stops_at_line f ≡ true → IsWhy played_in far.scene stop.line (length stop.before + 1) f →
          PictureStops played_in shown old new script f
      by new left (ReportFault.BadLine n reason) test why = inl (record {
        before = stop.before;
        line = stop.line;
        after = stop.after;
        split = stop.split;
        at = (
          whole,
          record {
            scene = far.scene;
            last = now.line.items;
            reaches = far-reaches played_in first.until now stop.before far;
            at = (why, left);
          },
        );
      })
      by new left ReportFault.HistoryFull test why = record {
        before = stop.before;
        line = stop.line;
        after = stop.after;
        split = stop.split;
        at = (
          whole,
          record {
            scene = far.scene;
            last = now.line.items;
            reaches = far-reaches played_in first.until now stop.before far;
            at = (why, left);
          },
        );
      }
      by new left ReportFault.NoMemory test why = absurd (cc)
      by new left ReportFault.ReadFault test why = absurd why
      by new left ReportFault.TooLong test why = absurd why
      by new left (ReportFault.WriteFault failed) test why = absurd why
      by new left (ReportFault.Missing sought n) test why = absurd why

  -- the last line has no end
  unended : (fault : ReportFault) → stops_at_line fault ≡ true → last_part script ≢ [] → IsBadLine (length (whole_lines script) + 1) fault →
      HasReason unended_reason fault → Writes (PlayedFrom first now true (whole_lines script)) old mid → Stopped fault
  unended fault test some line reason out = record {
    lines = whole_lines script;
    after = [];
    split = sym (append-nil (whole_lines script));
    far = out.is.2;
    stops = λ new left. by new (left out.is.3) fault test line reason;
  }
    where
      -- by cases on the fault
      by : (new : Option (List ℕ)) → IsLeftOf played_in shown old new (whole_lines script) out.is.2.scene now.line.items →
          (f : ReportFault) → stops_at_line f ≡ true → IsBadLine (length (whole_lines script) + 1) f → HasReason unended_reason f →
          PictureStops played_in shown old new script f
      by new left (ReportFault.BadLine n reason) test line told = inr (
        some,
        line,
        told,
        record {
          scene = out.is.2.scene;
          last = now.line.items;
          reaches = far-reaches played_in first.until now (whole_lines script) out.is.2;
          at = left;
        },
      )
      by new left ReportFault.NoMemory test line told = absurd (cc)
      by new left ReportFault.HistoryFull test line told = absurd line
      by new left ReportFault.ReadFault test line told = absurd line
      by new left ReportFault.TooLong test line told = absurd line
      by new left (ReportFault.WriteFault failed) test line told = absurd line
      by new left (ReportFault.Missing sought n) test line told = absurd line

  module _ (fault : ReportFault) (stops : PlayStops first now old mid script fault) where
    -- nothing was written
    pub nothing-out : Writes (λ text. text ≡ []) old mid
    nothing-out = by stops
      where
        -- by cases on what stopped the play
        by : PlayStops first now old mid script fault → Writes (λ text. text ≡ []) old mid
        by (inl (inl (is, cut))) = absurd (cut.at.is.0 cut.at.is.3.0)
        by (inl (inr stop)) = record { text = stop.at.text; is = none stop.at.is; written = stop.at.written }
          where
            -- nothing is told of a line
            none : WhyNot (PlayedFrom first) (Unplayed first) now stop.before stop.at.text stop.line fault → stop.at.text ≡ []
            none (inl (refused, at, played)) = played.0
            none (inr unplayed) = unplayed.0
        by (inr (some, line, reason, out)) = record { text = out.text; is = out.is.0; written = out.written }

    -- memory was refused, or a line stopped the script
    pub stopped-by : (fault ≡ ReportFault.NoMemory) ⊎ ((stops_at_line fault ≡ true) × Stopped fault)
    stopped-by = by stops
      where
        -- by cases on what stopped the play
        by : PlayStops first now old mid script fault → (fault ≡ ReportFault.NoMemory) ⊎ ((stops_at_line fault ≡ true) × Stopped fault)
        by (inl (inl (is, cut))) = absurd (cut.at.is.0 cut.at.is.3.0)
        by (inl (inr stop)) = at stop.at.is
          where
            at : WhyNot (PlayedFrom first) (Unplayed first) now stop.before stop.at.text stop.line fault →
                (fault ≡ ReportFault.NoMemory) ⊎ ((stops_at_line fault ≡ true) × Stopped fault)
            at (inl (refused, player, played)) = inl refused
            at (inr why) = or (why-says why.2.scene stop.line (length stop.before + 1) fault why.4)
              where
                or : (fault ≡ ReportFault.NoMemory) ⊎ (stops_at_line fault ≡ true) →
                    (fault ≡ ReportFault.NoMemory) ⊎ ((stops_at_line fault ≡ true) × Stopped fault)
                or (inl none) = inl none
                or (inr test) = inr (test, unplayed fault stop test why)
        by (inr (some, line, reason, out)) = or (last-says (length (whole_lines script) + 1) fault line)
          where
            or : (fault ≡ ReportFault.NoMemory) ⊎ (stops_at_line fault ≡ true) →
                (fault ≡ ReportFault.NoMemory) ⊎ ((stops_at_line fault ≡ true) × Stopped fault)
            or (inl none) = inl none
            or (inr test) = inr (test, unended fault test some line reason out)

    -- nothing more was written, where it is not asked for the last line
    pub stops-asked : (w : Sought × ℕ) → wanted first.until ≡ Some w → PictureStops played_in shown old mid script fault
    stops-asked w asked = by stopped-by
      where
        -- nothing was written
        kept : Keeps old mid
        kept = kept-none old mid nothing-out.text nothing-out.is nothing-out.written

        -- by cases: memory was refused, or a line stopped the script
        by : (fault ≡ ReportFault.NoMemory) ⊎ ((stops_at_line fault ≡ true) × Stopped fault) → PictureStops played_in shown old mid script fault
        by (inl none) = rw none kept
        by (inr (test, stopped)) = stopped.stops mid (λ ahead.
            let number_is : asked_number first.until ≡ Some w.1 = ap (option_map (λ (v : Sought × ℕ). v.1)) asked in
            let at = count stopped.lines stopped.far.scene in
            subst (λ (n : Option ℕ). PictureBefore n at format played_in stopped.far.scene now.line.items old mid) (sym number_is)
            (subst (λ (n : Option ℕ). ComesBefore n at) number_is ahead, kept))

    -- memory was refused: nothing more was written
    pub stops-refused : stops_at_line fault ≡ false → PictureStops played_in shown old mid script fault
    stops-refused test = by stopped-by
      where
        by : (fault ≡ ReportFault.NoMemory) ⊎ ((stops_at_line fault ≡ true) × Stopped fault) → PictureStops played_in shown old mid script fault
        by (inl none) = rw none (kept-none old mid nothing-out.text nothing-out.is nothing-out.written)
        by (inr (line, stopped)) = let never : true ≡ false = sym line ∙ test in absurd (cc)

    module _ (test : stops_at_line fault ≡ true) (new : Option (List ℕ)) where
      -- where the script was stopped
      stopped-at : Stopped fault
      stopped-at = by stopped-by
        where
          by : (fault ≡ ReportFault.NoMemory) ⊎ ((stops_at_line fault ≡ true) × Stopped fault) → Stopped fault
          by (inl none) =
              let never : stops_at_line ReportFault.NoMemory ≡ true = subst (λ (f : ReportFault). stops_at_line f ≡ true) none test in
              absurd (cc)
          by (inr (line, stopped)) = stopped

      -- what came of the picture there
      here : (result : Result (Unit {0}) ReportFault) → PictureTold format played_in stopped-at.far.scene now.line.items mid new result →
          PictureTold format played_in stopped-at.far.scene now.line.items old new result
      here result = told-behind format played_in stopped-at.far.scene now.line.items old mid new nothing-out.text nothing-out.is
          nothing-out.written result

      -- the picture of the lines before it was written
      pub stops-drawn : (done : Unit {0}) → wanted first.until ≡ None → ((setting : Setting) (until : Until) (lines : List (List ℕ))
          (far : Reached setting until now lines) → PictureTold format setting far.scene now.line.items mid new (Ok done)) →
          PictureStops played_in shown old new script fault
      stops-drawn done none told = stopped-at.stops new (λ ahead.
          subst (λ (n : Option ℕ). PictureBefore n (count stopped-at.lines stopped-at.far.scene) format played_in stopped-at.far.scene
          now.line.items old new) (sym (ap (option_map (λ (w : Sought × ℕ). w.1)) none))
          (here (Ok done) (told played_in first.until stopped-at.lines stopped-at.far)))

      -- it was not
      pub stops-failed : (other : ReportFault) → ((setting : Setting) (until : Until) (lines : List (List ℕ))
          (far : Reached setting until now lines) → PictureTold format setting far.scene now.line.items mid new (Err other)) →
          PictureStops played_in shown old new script other
      stops-failed other told = cut-off format first now old new script stopped-at.lines stopped-at.after stopped-at.split stopped-at.far
          other (here (Err other) (told played_in first.until stopped-at.lines stopped-at.far))

-- the picture was put, or a part of it
pub put-told : (format : Format) (setting : Setting) (scene : Scene) (last : List ℕ) (old new : Option (List ℕ)) (text : List ℕ) →
    Pictures format setting scene last text → (result : Result (Unit {0}) ReportFault) → OnOk result (Appends old new text) →
    IfErr result (λ fault. IsWriteFault fault × WritesPart old new text) → PictureTold format setting scene last old new result
put-told format setting scene last old new text is (Ok done) out fails = record { text = text; is = is; written = out }
put-told format setting scene last old new text is (Err fault) out fails =
    inl (fails.0, record { text = text; is = is; written = fails.1 })
