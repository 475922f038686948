-- Lines that are taken one after another.
use Rattle.std.proofs.Common.{◌≡◌, ◌≢◌, ◌⊎◌, ℕ, ◌+◌, ◌<◌, ◌≤◌, ◌==◌, Bool, true, false, List, [], ◌∷◌, ◌++◌, length, length-append}
use Rattle.std.proofs.Common.{length-drop, take, drop, append_assoc, append-nil, refl, sym, ap, ◌∙◌, subst, Option, Some, None, inl, inr, arith}
use Rattle.std.proofs.KnownBytes.{Appends-nil, Appends-trans}
use Rattle.std.specs.Io.KnownBytes.{Appends}
use Rattle.std.specs.List.{position}
use Rattle.script_lines.specs.Pieces.{last_part, lines_from, rest_from, whole_lines}
use Rattle.script_lines.specs.Written.{WritesPart}
use Rattle.script_lines.proofs.Piecing.{is_end, ends_found, unended_none}
use Rattle.report_io.specs.declared.fault.ReportFault.{ReportFault}
use Rattle.report_io.specs.declared.taking.Told.{Told}
use Rattle.report_io.specs.Faults.{HasReason, IsBadLine, IsWriteFault}
use Rattle.report_io.specs.Reasons.{unended_reason}
use Rattle.report_io.specs.Takings.{Among, AtLine, Breaks, BreaksOff, Fails, Gains, GivesUp, Goes, GoesOn, Halts, HasText, ScriptStops, WhyNot}
use Rattle.report_io.specs.Takings.{IsTaken, Stands, Stops, TakesOn, Writes, WritesFirst}

-- nothing stands behind what is nothing as a whole
back-none : (front back : List ℕ) → front ++ back ≡ [] → back ≡ []
back-none [] back none = none
back-none (byte ∷ front) back none = absurd (cc)

-- bytes that are counted are some
pub some-bytes : (bytes : List ℕ) → (length bytes == 0) ≡ false → bytes ≢ []
some-bytes bytes some none = absurd (subst (λ (b : List ℕ). (length b == 0) ≡ false → ⊥) (sym none) (λ e. cc) some)

-- a first part of a text was written behind what was written before
pub part-behind : (old mid new : Option (List ℕ)) (done text : List ℕ) → Appends old mid done → WritesPart mid new text →
    WritesPart old new (done ++ text)
part-behind old mid new done text before part = record {
  done = done ++ part.done;
  rest = part.rest;
  split = ap (λ back. done ++ back) part.split ∙ sym (append_assoc done part.done part.rest);
  written = Appends-trans old mid new done part.done before part.written;
}

-- what holds of some first lines is so of more lines
pub among-more : (At : List (List ℕ) → Type 0) (lines more : List (List ℕ)) → Among At lines → Among At (lines ++ more)
among-more At lines more some = record {
  before = some.before;
  after = some.after ++ more;
  split = ap (λ front. front ++ more) some.split ∙ append_assoc some.before some.after more;
  at = some.at;
}

-- what holds of one of the lines is so of more lines
pub line-more : (At : List (List ℕ) → List ℕ → Type 0) (lines more : List (List ℕ)) → AtLine At lines → AtLine At (lines ++ more)
line-more At lines more some = record {
  before = some.before;
  line = some.line;
  after = some.after ++ more;
  split = ap (λ front. front ++ more) some.split ∙ append_assoc some.before (some.line ∷ some.after) more;
  at = some.at;
}

module _ {T : Type 0} (Took : T → Bool → List (List ℕ) → List ℕ → Type 0) where
  -- no line was taken
  pub stands-none : (now : T) (told : Told) (old : Option (List ℕ)) → Took now true [] [] → told.text.items ≡ [] → told.lines ≡ 0 →
      Stands Took now true told old old []
  stands-none now told old took none zero =
      record { text = []; took = took; done = []; split = sym none; written = Appends-nil old; counted = zero }

  module _ (now : T) (more : Bool) (told : Told) (old mid : Option (List ℕ)) (lines : List (List ℕ))
      (far : Stands Took now more told old mid lines) where
    -- all of the text was written
    abbrev pub stands-written : (new : Option (List ℕ)) → Appends mid new told.text.items → Writes (Took now more lines) old new
    stands-written new out = record {
      text = far.text;
      is = far.took;
      written = subst (Appends old new) (sym far.split) (Appends-trans old mid new far.done told.text.items far.written out);
    }

    -- none of it is still to go out
    pub stands-empty : told.text.items ≡ [] → Writes (Took now more lines) old mid
    stands-empty none = stands-written mid (subst (Appends mid mid) (sym none) (Appends-nil mid))

    -- the same lines were taken where all of it was written
    pub stands-out : (new : Option (List ℕ)) (next : Told) → Appends mid new told.text.items → next.text.items ≡ [] →
        next.lines ≡ told.lines → Stands Took now more next old new lines
    stands-out new next out none same = record {
      text = far.text;
      took = far.took;
      done = far.text;
      split = sym (ap (λ back. far.text ++ back) none ∙ append-nil far.text);
      written = (stands-written new out).written;
      counted = same ∙ far.counted;
    }

    -- a first part of it was written
    pub stands-cut : (new : Option (List ℕ)) (after : List (List ℕ)) (fault : ReportFault) → Fails mid new told.text.items fault →
        IsWriteFault fault × Among (λ before. WritesFirst (HasText Took before) old new) (lines ++ after)
    stands-cut new after fault (is, some, part) = (
      is,
      record {
        before = lines;
        after = after;
        split = refl;
        at = record {
          text = far.text;
          is = (λ none. some (back-none far.done told.text.items (sym far.split ∙ none)), now, more, far.took);
          written = subst (WritesPart old new) (sym far.split) (part-behind old mid new far.done told.text.items far.written part);
        };
      },
    )

  module _ (now : T) (told : Told) (old mid : Option (List ℕ)) (lines : List (List ℕ)) (far : Stands Took now true told old mid lines) where
    -- one more line was taken
    pub stands-more : (next : T) (more : Bool) (later : Told) (line : List ℕ) →
        Gains (Took next more (lines ++ line ∷ [])) far.text told.text.items later.text.items → later.lines ≡ told.lines + 1 →
        Stands Took next more later old mid (lines ++ line ∷ [])
    stands-more next more later line gains counted = record {
      text = far.text ++ gains.0;
      took = gains.2;
      done = far.done;
      split = ap (λ front. front ++ gains.0) far.split ∙ append_assoc far.done told.text.items gains.0
          ∙ ap (λ back. far.done ++ back) (sym gains.1);
      written = far.written;
      counted = rw length-append (omega (arith, counted, far.counted));
    }

    module _ (Refuses : T → List (List ℕ) → List ℕ → List ℕ → ReportFault → Type 0) (next : T) (new : Option (List ℕ)) where
      -- the next line was not taken
      pub stands-stop : (line : List ℕ) (fault said : ReportFault) →
          (fault ≡ ReportFault.NoMemory) ⊎ Refuses next lines far.text line fault →
          GivesUp mid new told.text.items fault said → Stops Took Refuses next old new (lines ++ line ∷ []) said
      stands-stop line fault said why (inl (is, out)) = inr (record {
        before = lines;
        line = line;
        after = [];
        split = refl;
        at = record {
          text = far.text;
          is = by why;
          written = (stands-written now true told old mid lines far new out).written;
        };
      })
        where
          -- by cases: memory was refused, or the taker says why
          by : (fault ≡ ReportFault.NoMemory) ⊎ Refuses next lines far.text line fault →
              ((said ≡ ReportFault.NoMemory) × (at : T) × Took at true lines far.text) ⊎ Refuses next lines far.text line said
          by (inl none) = inl (is ∙ none, now, far.took)
          by (inr refused) = inr (subst (Refuses next lines far.text line) (sym is) refused)
      stands-stop line fault said why (inr fails) = inl (stands-cut now true told old mid lines far new (line ∷ []) said fails)

    -- memory was refused behind the lines
    pub stands-behind : (Refuses : T → List (List ℕ) → List ℕ → List ℕ → ReportFault → Type 0) (new : Option (List ℕ)) (rest : List ℕ)
        (said : ReportFault) → rest ≢ [] → GivesUp mid new told.text.items ReportFault.NoMemory said →
        Breaks Took Refuses now old new lines rest said
    stands-behind Refuses new rest said some (inl (is, out)) =
        inr (is, some, stands-written now true told old mid lines far new out)
    stands-behind Refuses new rest said some (inr fails) =
        inl (inl (subst (λ (ls : List (List ℕ)). IsWriteFault said
        × Among (λ before. WritesFirst (HasText Took before) old new) ls)
        (append-nil lines) (stands-cut now true told old mid lines far new [] said fails)))

  -- a stop among the first of the lines is one among all
  pub stops-more : (Refuses : T → List (List ℕ) → List ℕ → List ℕ → ReportFault → Type 0) (now : T) (old new : Option (List ℕ))
      (lines more : List (List ℕ)) (fault : ReportFault) → Stops Took Refuses now old new lines fault →
      Stops Took Refuses now old new (lines ++ more) fault
  stops-more Refuses now old new lines more fault (inl (is, cut)) = inl (is, among-more _ lines more cut)
  stops-more Refuses now old new lines more fault (inr stop) = inr (line-more _ lines more stop)

module _ {T : Type 0} (took : T → T → Bool → List (List ℕ) → List ℕ → Type 0)
    (refuses : T → T → List (List ℕ) → List ℕ → List ℕ → ReportFault → Type 0) (first_front piece : List ℕ)
    (first : T) (first_told : Told) (first_mid : Option (List ℕ)) where
  -- the lines that end before the rest were taken
  pub record Taken (front rest : List ℕ) (now : T) (told : Told) (mid : Option (List ℕ)) : Type 0 where
    pub taken : List (List ℕ)
    pub lines : lines_from first_front piece ≡ taken ++ lines_from front rest
    pub rests : rest_from first_front piece ≡ rest_from front rest
    pub goes : Goes took first first_told first_mid now true told mid taken
    pub few : told.lines + length rest ≤ first_told.lines + length piece

  -- none
  pub taken-none : Taken first_front piece first first_told first_mid
  taken-none = record {
    taken = [];
    lines = refl;
    rests = refl;
    goes = λ start old lines far. subst (Stands (took start) first true first_told old first_mid) (sym (append-nil lines)) far;
    few = omega arith;
  }

  module _ (front rest : List ℕ) (now : T) (told : Told) (mid : Option (List ℕ)) (so_far : Taken front rest now told mid) where
    module _ (at : ℕ) (found : position is_end rest ≡ Some at) where
      -- the line at hand
      abbrev line : List (List ℕ)
      line = (front ++ take at rest) ∷ []

      -- that line, and those behind it
      split-at : lines_from first_front piece ≡ (so_far.taken ++ line) ++ lines_from [] (drop (at + 1) rest)
      split-at = so_far.lines ∙ ap (λ ls. so_far.taken ++ ls) (ends_found front rest at found).lines
          ∙ sym (append_assoc so_far.taken line (lines_from [] (drop (at + 1) rest)))

      module _ (next : T) (new : Option (List ℕ)) where
        -- it was taken too
        goes-line : (more : Bool) (later : Told) → Goes took now told mid next more later new line →
            Goes took first first_told first_mid next more later new (so_far.taken ++ line)
        goes-line more later step start old lines far =
            subst (Stands (took start) next more later old new) (append_assoc lines so_far.taken line)
            (step start old (lines ++ so_far.taken) (so_far.goes start old lines far))

        -- and more are taken
        pub taken-more : (later : Told) (behind left : List ℕ) → behind ≡ [] → left ≡ drop (at + 1) rest → at < length rest →
            Goes took now told mid next true later new line → later.lines ≡ told.lines + 1 → Taken behind left next later new
        taken-more later behind left none is within step counted =
            let ends = ends_found front rest at found in
            subst (λ (f : List ℕ). Taken f left next later new) (sym none)
            (subst (λ (r : List ℕ). Taken [] r next later new) (sym is) (record {
              taken = so_far.taken ++ line;
              lines = split-at;
              rests = so_far.rests ∙ ends.rest;
              goes = goes-line true later step;
              few = rw length-drop (omega (arith, so_far.few, counted, within));
            }))

        -- and no more are
        pub taken-last : (later : Told) → Goes took now told mid next false later new line →
            GoesOn took first first_told first_mid next later new (lines_from first_front piece) false
        taken-last later step start old lines far = record {
          taken = so_far.taken ++ line;
          after = lines_from [] (drop (at + 1) rest);
          split = split-at;
          all = λ e. absurd (cc);
          stands = goes-line false later step start old lines far;
        }

        -- it was not taken
        pub taken-stop : (fault : ReportFault) → Halts took now told mid refuses next new line fault →
            BreaksOff took first first_told first_mid refuses next new (lines_from first_front piece) (rest_from first_front piece) fault
        taken-stop fault halts start old lines far =
            let behind : List (List ℕ) = lines_from [] (drop (at + 1) rest) in
            let all : ((lines ++ so_far.taken) ++ line) ++ behind ≡ lines ++ lines_from first_front piece =
            ap (λ ls. ls ++ behind) (append_assoc lines so_far.taken line)
            ∙ append_assoc lines (so_far.taken ++ line) behind ∙ ap (λ ls. lines ++ ls) (sym split-at) in
            inl (subst (λ (ls : List (List ℕ)). Stops (took start) (refuses start) next old new ls fault) all
            (stops-more (took start) (refuses start) next old new ((lines ++ so_far.taken) ++ line) behind fault
            (halts start old (lines ++ so_far.taken) (so_far.goes start old lines far))))

    module _ (none : position is_end rest ≡ None) where
      -- no line is left
      all-lines : lines_from first_front piece ≡ so_far.taken
      all-lines = so_far.lines ∙ ap (λ ls. so_far.taken ++ ls) (unended_none front rest none).lines ∙ append-nil so_far.taken

      -- where the rest has no end of a line, the front and the rest remain behind the lines
      pub all-rest : rest_from first_front piece ≡ front ++ rest
      all-rest = so_far.rests ∙ (unended_none front rest none).rest

      -- all were taken
      pub taken-all : GoesOn took first first_told first_mid now told mid (lines_from first_front piece) true
      taken-all start old lines far = record {
        taken = so_far.taken;
        after = [];
        split = all-lines ∙ sym (append-nil so_far.taken);
        all = λ e. refl;
        stands = so_far.goes start old lines far;
      }

      -- memory was refused for what is left
      pub taken-behind : (new : Option (List ℕ)) (said : ReportFault) → (length rest == 0) ≡ false →
          GivesUp mid new told.text.items ReportFault.NoMemory said →
          BreaksOff took first first_told first_mid refuses now new (lines_from first_front piece) (rest_from first_front piece) said
      taken-behind new said some gives start old lines far =
          subst (λ (ls : List (List ℕ)). Breaks (took start) (refuses start) now old new (lines ++ ls) (rest_from first_front piece) said)
          (sym all-lines)
          (stands-behind (took start) now told old mid (lines ++ so_far.taken) (so_far.goes start old lines far) (refuses start) new
          (rest_from first_front piece) said
          (λ e. some-bytes rest some (back-none front rest (sym all-rest ∙ e))) gives)

-- where more lines are taken, all that came were
pub takes-all : {T : Type 0} (Took : T → Bool → List (List ℕ) → List ℕ → Type 0) (now : T) (more : Bool) (told : Told)
    (old new : Option (List ℕ)) (lines coming : List (List ℕ)) → TakesOn Took now more told old new lines coming → more ≡ true →
    Stands Took now more told old new (lines ++ coming)
takes-all Took now more told old new lines coming on wanted =
    subst (λ (ls : List (List ℕ)). Stands Took now more told old new (lines ++ ls))
    (sym (on.split ∙ ap (λ ls. on.taken ++ ls) (on.all wanted) ∙ append-nil on.taken)) on.stands

module _ (First Before : List (List ℕ) → List ℕ → Type 0) (Why Reason : List (List ℕ) → List ℕ → List ℕ → ReportFault → Type 0)
    (Whole Text : List (List ℕ) → List ℕ → Type 0)
    (begins : (lines : List (List ℕ)) (text : List ℕ) → First lines text → Before lines text)
    (refuses : (lines : List (List ℕ)) (text line : List ℕ) (fault : ReportFault) → Why lines text line fault → Reason lines text line fault)
    (says : (lines : List (List ℕ)) (text : List ℕ) → Whole lines text → Text lines text) (old new : Option (List ℕ))
    (script : List ℕ) (fault : ReportFault) where
  -- what stops a script also does so where less is said of each text
  pub stops-weaker : ScriptStops First Why Whole old new script fault → ScriptStops Before Reason Text old new script fault
  stops-weaker (inl (inl (is, cut))) = inl (inl (
    is,
    record {
      before = cut.before;
      after = cut.after;
      split = cut.split;
      at = record { text = cut.at.text; is = begins cut.before cut.at.text cut.at.is; written = cut.at.written };
    },
  ))
  stops-weaker (inl (inr stop)) = inl (inr (record {
    before = stop.before;
    line = stop.line;
    after = stop.after;
    split = stop.split;
    at = record {
      text = stop.at.text;
      is = refuses stop.before stop.at.text stop.line fault stop.at.is;
      written = stop.at.written;
    };
  }))
  stops-weaker (inr (some, line, reason, out)) = inr (
    some,
    line,
    reason,
    record {
      text = out.text;
      is = says (whole_lines script) out.text out.is;
      written = out.written;
    },
  )

-- where more lines are taken, those of the whole script were
pub taken-whole : {T : Type 0} (Took : T → Bool → List (List ℕ) → List ℕ → Type 0) (now : T) (old new : Option (List ℕ))
    (script : List ℕ) (more : Bool) (taken : IsTaken Took now old new script more) → more ≡ true → whole_lines script ≡ taken.lines
taken-whole Took now old new script more taken wanted =
    taken.split ∙ ap (λ ls. taken.lines ++ ls) (taken.all wanted).0 ∙ append-nil taken.lines

module _ {T : Type 0} (took : T → T → Bool → List (List ℕ) → List ℕ → Type 0)
    (refuses : T → T → List (List ℕ) → List ℕ → List ℕ → ReportFault → Type 0) (now : T) (told : Told) (mid : Option (List ℕ)) where
  module _ (next : T) (line : List ℕ) (number : ℕ) (numbered : number ≡ told.lines + 1) where
    -- one more line was taken, and nothing written
    pub line-taken : (more : Bool) (later : Told) → ((first : T) (lines : List (List ℕ)) (whole : List ℕ) → took first now true lines whole →
        number ≡ length lines + 1 → Gains (took first next more (lines ++ line ∷ [])) whole told.text.items later.text.items) →
        later.lines ≡ told.lines + 1 → Goes took now told mid next more later mid (line ∷ [])
    line-taken more later step counted first old lines far =
        stands-more (took first) now told old mid lines far next more later line
        (step first lines far.text far.took (numbered ∙ ap (λ n. n + 1) far.counted)) counted

    -- it was not taken, and the text of those before was written
    pub line-stop : (new : Option (List ℕ)) (left : List ℕ) (fault said : ReportFault) → left ≡ told.text.items →
        (fault ≡ ReportFault.NoMemory) ⊎ ((first : T) (lines : List (List ℕ)) (whole : List ℕ) → took first now true lines whole →
        number ≡ length lines + 1 → refuses first next lines whole line fault) →
        GivesUp mid new left fault said → Halts took now told mid refuses next new (line ∷ []) said
    line-stop new left fault said kept why gives first old lines far =
        stands-stop (took first) now told old mid lines far (refuses first) next new line fault said (by why)
        (subst (λ (t : List ℕ). GivesUp mid new t fault said) kept gives)
      where
        -- by cases: memory was refused, or the taker says why
        by : (fault ≡ ReportFault.NoMemory) ⊎ ((start : T) (ls : List (List ℕ)) (whole : List ℕ) → took start now true ls whole →
            number ≡ length ls + 1 → refuses start next ls whole line fault) →
            (fault ≡ ReportFault.NoMemory) ⊎ refuses first next lines far.text line fault
        by (inl none) = inl none
        by (inr refused) = inr (refused first lines far.text far.took (numbered ∙ ap (λ n. n + 1) far.counted))

  module _ (next : T) (later : Told) (mid_new new : Option (List ℕ)) (coming : List (List ℕ)) where
    -- the lines were taken, and their text was written
    pub goes-out : (more : Bool) (out : Told) → Goes took now told mid next more later mid_new coming →
        Appends mid_new new later.text.items → out.text.items ≡ [] → out.lines ≡ later.lines →
        Goes took now told mid next more out new coming
    goes-out more out goes written none same first old lines far =
        stands-out (took first) next more later old mid_new (lines ++ coming) (goes first old lines far) new out written none same

    -- or a first part of it
    pub goes-cut : (more : Bool) (said : ReportFault) → Goes took now told mid next more later mid_new coming →
        Fails mid_new new later.text.items said → Halts took now told mid refuses next new coming said
    goes-cut more said goes fails first old lines far =
        inl (subst (λ (ls : List (List ℕ)). IsWriteFault said × Among (λ before. WritesFirst (HasText (took first) before) old new) ls)
        (append-nil (lines ++ coming))
        (stands-cut (took first) next more later old mid_new (lines ++ coming) (goes first old lines far) new [] said fails))

    -- the same of those that come
    pub goes_on-out : (more : Bool) (out : Told) → GoesOn took now told mid next later mid_new coming more →
        Appends mid_new new later.text.items → out.text.items ≡ [] → out.lines ≡ later.lines →
        GoesOn took now told mid next out new coming more
    goes_on-out more out goes written none same first old lines far =
        let on = goes first old lines far in
        record {
          taken = on.taken;
          after = on.after;
          split = on.split;
          all = on.all;
          stands = stands-out (took first) next more later old mid_new (lines ++ on.taken) on.stands new out written none same;
        }

    -- or of a first part of their text
    pub goes_on-cut : (more : Bool) (said : ReportFault) (rest : List ℕ) → GoesOn took now told mid next later mid_new coming more →
        Fails mid_new new later.text.items said → BreaksOff took now told mid refuses next new coming rest said
    goes_on-cut more said rest goes fails first old lines far =
        let on = goes first old lines far in
        inl (inl (subst (λ (ls : List (List ℕ)). IsWriteFault said × Among (λ before. WritesFirst (HasText (took first) before) old new) ls)
        (append_assoc lines on.taken on.after ∙ ap (λ ls. lines ++ ls) (sym on.split))
        (stands-cut (took first) next more later old mid_new (lines ++ on.taken) on.stands new on.after said fails)))

module _ {T : Type 0} (Took : T → Bool → List (List ℕ) → List ℕ → Type 0)
    (Refuses : T → List (List ℕ) → List ℕ → List ℕ → ReportFault → Type 0) (now : T) (old new : Option (List ℕ)) (script : List ℕ) where
  module _ (more : Bool) (told : Told) (on : TakesOn Took now more told old new [] (whole_lines script)) (none : told.text.items ≡ []) where
    -- the lines of the script were taken
    pub script-taken : (more ≡ true → last_part script ≡ []) → IsTaken Took now old new script more
    script-taken ended = record {
      lines = on.taken;
      after = on.after;
      split = on.split;
      all = λ wanted. (on.all wanted, ended wanted);
      out = stands-empty Took now more told old new on.taken on.stands none;
    }

  -- the last line has no end
  pub script-unended : (told : Told) (fault : ReportFault) → TakesOn Took now true told old new [] (whole_lines script) →
      told.text.items ≡ [] → last_part script ≢ [] → IsBadLine (told.lines + 1) fault → HasReason unended_reason fault →
      ScriptStops (HasText Took) (WhyNot Took Refuses now) (Took now true) old new script fault
  script-unended told fault on none some line reason =
      let all = takes-all Took now true told old new [] (whole_lines script) on refl in
      inr (
        some,
        subst (λ (n : ℕ). IsBadLine (n + 1) fault) all.counted line,
        reason,
        stands-empty Took now true told old new (whole_lines script) all none,
      )

  -- not all was taken
  pub script-broken : (fault : ReportFault) → Breaks Took Refuses now old new (whole_lines script) (last_part script) fault →
      ScriptStops (HasText Took) (WhyNot Took Refuses now) (Took now true) old new script fault
  script-broken fault (inl stop) = inl stop
  script-broken fault (inr (is, some, out)) = inr (some, rw is tt, rw is tt, out)

module _ {T : Type 0} (took : T → T → Bool → List (List ℕ) → List ℕ → Type 0) (first : T) (told : Told) (front : List ℕ)
    (old : Option (List ℕ)) (start : took first first true [] []) (none : told.text.items ≡ []) (zero : told.lines ≡ 0)
    (blank : front ≡ []) (next : T) (new : Option (List ℕ)) (script : List ℕ) where
  -- the lines of a script that is the first piece are those of the script
  pub script-goes : (more : Bool) (later : Told) → GoesOn took first told old next later new (lines_from front script) more →
      TakesOn (took first) next more later old new [] (whole_lines script)
  script-goes more later goes = subst (λ (f : List ℕ). TakesOn (took first) next more later old new [] (lines_from f script)) blank
      (goes first old [] (stands-none (took first) first told old start none zero))

  -- and so is what is not taken of it
  pub script-breaks : (refuses : T → T → List (List ℕ) → List ℕ → List ℕ → ReportFault → Type 0) (fault : ReportFault) →
      BreaksOff took first told old refuses next new (lines_from front script) (rest_from front script) fault →
      ScriptStops (HasText (took first)) (WhyNot (took first) (refuses first) next) (took first next true) old new script fault
  script-breaks refuses fault breaks = script-broken (took first) (refuses first) next old new script fault
      (subst (λ (f : List ℕ). Breaks (took first) (refuses first) next old new (lines_from f script) (rest_from f script) fault) blank
      (breaks first old [] (stands-none (took first) first told old start none zero)))
