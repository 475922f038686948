-- The lines of a text that explains lines.
use Rattle.std.proofs.Common.{◌≡◌, ℕ, ◌+◌, ◌==◌, ◌&&◌, not, if◌then◌else◌, Bool, true, false, List, [], ◌∷◌}
use Rattle.std.proofs.Common.{◌++◌, length, map, drop, append_assoc, append-nil, refl, sym, ap, ◌∙◌, subst}
use Rattle.std.proofs.lemmas.Grind.{flat_map-append}
use Rattle.std.proofs.lemmas.List.Elements.{filter-append}
use Rattle.std.proofs.lemmas.List.Folds.{list_all-append}
use Rattle.std.specs.Prelude.{codes}
use Rattle.std.specs.List.{flat_map, list_all}
use Rattle.script_lines.specs.Pieces.{lines_from, rest_from, whole_lines, last_part}
use Rattle.script_lines.proofs.Piecing.{lines-append, rest-append}
use Rattle.report_io.specs.IndentedLines.{fact_line, indented, is_indented, unindented}
use Rattle.sm_script.specs.Scenes.{Scene, Setting, as_line, first_scene}
use Rattle.event_texts.specs.Deeds.{KeptLines}
use Rattle.event_texts.specs.Failing.{failing_events}
use Rattle.event_texts.specs.SummaryTexts.{summary_text}
use Rattle.script_explain.specs.Explanations.{IsSummaryIf}
use Rattle.script_explain.specs.ExplainedLines.{ExplainsLines, Begins, Passes, Goes, indent, numbered_facts, replies_in, told_line}
use Rattle.script_explain.proofs.CleanLabels.{and-left, and-right, inner-append, is_inner}
use Rattle.script_explain.proofs.CleanScenes.{AreClean, IsReply, NoReply, OneReply, answers-clean}
use Rattle.report_io.proofs.Unindented.{unindented-more, unindented-skip}

-- the text consists of these whole lines
record IsWhole (text : List ℕ) (lines : List (List ℕ)) : Type 0 where
  pub lines_are : whole_lines text ≡ lines
  pub ends : last_part text ≡ []

-- the empty text consists of no lines
whole-nil : IsWhole [] []
whole-nil = record { lines_are = refl; ends = refl }

-- a test is false where its negation is true
not-false : (t : Bool) → not t ≡ true → t ≡ false
not-false true e = absurd (cc)
not-false false e = refl

-- the first end of a line behind a text ends one line: the front and the text
first-line : (front text rest : List ℕ) → is_inner text ≡ true →
    lines_from front (text ++ 10 ∷ rest) ≡ (front ++ text) ∷ lines_from [] rest
first-line front [] rest inner = ap (λ line. line ∷ lines_from [] rest) (sym (append-nil front))
first-line front (x ∷ text) rest inner =
    let other : (x == 10) ≡ false = not-false (x == 10) (and-left (not (x == 10)) (is_inner text) inner) in
    rw other (first-line (front ++ x ∷ []) text rest (and-right (not (x == 10)) (is_inner text) inner)
    ∙ ap (λ line. line ∷ lines_from [] rest) (append_assoc front (x ∷ []) text))

-- a line in front does not change what stands behind the last end of a line
first-rest : (front text rest : List ℕ) → is_inner text ≡ true → rest_from front (text ++ 10 ∷ rest) ≡ rest_from [] rest
first-rest front [] rest inner = refl
first-rest front (x ∷ text) rest inner =
    let other : (x == 10) ≡ false = not-false (x == 10) (and-left (not (x == 10)) (is_inner text) inner) in
    rw other (first-rest (front ++ x ∷ []) text rest (and-right (not (x == 10)) (is_inner text) inner))

-- a line in front
whole-line : (text rest : List ℕ) (lines : List (List ℕ)) → is_inner text ≡ true → IsWhole rest lines →
    IsWhole (text ++ 10 ∷ rest) (text ∷ lines)
whole-line text rest lines inner whole = record {
  lines_are = first-line [] text rest inner ∙ ap (λ ls. text ∷ ls) whole.lines_are;
  ends = first-rest [] text rest inner ∙ whole.ends;
}

-- whole lines behind whole lines
whole-append : (a b : List ℕ) (ls ms : List (List ℕ)) → IsWhole a ls → IsWhole b ms → IsWhole (a ++ b) (ls ++ ms)
whole-append a b ls ms p q = record {
  lines_are = lines-append [] a b ∙ ap (λ front. whole_lines a ++ lines_from front b) p.ends
      ∙ ap (λ front. front ++ whole_lines b) p.lines_are ∙ ap (λ back. ls ++ back) q.lines_are;
  ends = rest-append [] a b ∙ ap (λ front. rest_from front b) p.ends ∙ q.ends;
}

-- the whole lines of a text are lines
lines-inner : (front text : List ℕ) → is_inner front ≡ true → list_all is_inner (lines_from front text) ≡ true
lines-inner front [] inner = refl
lines-inner front (x ∷ text) inner = by (λ other ok. lines-inner other text ok) (x == 10) refl
  where
    -- by cases: a line that ends is whole, and any other byte extends it
    by : ((other : List ℕ) → is_inner other ≡ true → list_all is_inner (lines_from other text) ≡ true) →
        (t : Bool) → (x == 10) ≡ t → list_all is_inner (if t then front ∷ lines_from [] text else lines_from (front ++ x ∷ []) text) ≡ true
    by rest true is = rw inner (rest [] refl)
    by rest false is =
        let one : is_inner (x ∷ []) ≡ true = rw is refl in
        rest (front ++ x ∷ []) (inner-append front (x ∷ []) inner one)

-- a fact, as a line
abbrev shown : List ℕ → List ℕ
shown line = codes "    " ++ line

-- the facts are whole lines, each behind four spaces, since no fact contains an end of a line
whole-facts : (lines : List (List ℕ)) → list_all is_inner lines ≡ true → IsWhole (flat_map fact_line lines) (map shown lines)
whole-facts [] inner = whole-nil
whole-facts (line ∷ lines) inner =
    let here : is_inner (shown line) ≡ true = and-left (is_inner line) (list_all is_inner lines) inner in
    let rest = whole-facts lines (and-right (is_inner line) (list_all is_inner lines) inner) in
    subst (λ text. IsWhole text (map shown (line ∷ lines)))
    (sym (append_assoc (shown line) (10 ∷ []) (flat_map fact_line lines)))
    (whole-line (shown line) (flat_map fact_line lines) (map shown lines) here rest)

-- what stands before a reply
indent-some : (text : List ℕ) → indent (as_line text) ≡ codes "  "
indent-some [] = refl
indent-some (x ∷ text) = refl

-- the lines that an explanation of a line has behind it
data Behind : List ℕ → List (List ℕ) → Type 0 where
  NothingBehind : Behind [] []
  ReplyBehind : (text : List ℕ) → is_indented text ≡ false → Behind (as_line text) ((codes "  " ++ text) ∷ [])

-- the lines of a told line
record IsToldIn (line reply facts : List ℕ) (text : List ℕ) : Type 0 where
  pub replies : List (List ℕ)
  pub behind : Behind reply replies
  pub whole : IsWhole text (line ∷ (replies ++ map shown (whole_lines facts)))

-- a told line consists of the line itself, of its reply behind two spaces, if any, and of its facts
whole-told : (line reply facts : List ℕ) → is_inner line ≡ true → IsReply reply → IsToldIn line reply facts (told_line line reply facts)
whole-told line reply facts inner NoReply = record {
  replies = [];
  behind = NothingBehind;
  whole = subst (λ text. IsWhole text (line ∷ map shown (whole_lines facts)))
      (sym (ap (λ front. (front ++ []) ++ indented facts) (append-nil (line ++ codes "\n"))
      ∙ ap (λ front. front ++ indented facts) (append-nil (line ++ codes "\n")) ∙ append_assoc line (codes "\n") (indented facts)))
      (whole-line line (indented facts) (map shown (whole_lines facts)) inner
      (whole-facts (whole_lines facts) (lines-inner [] facts refl)));
}
whole-told line reply facts inner (OneReply text plain) = record {
  replies = (codes "  " ++ text) ∷ [];
  behind = ReplyBehind text plain.whole;
  whole = subst (λ told. IsWhole told (line ∷ ((codes "  " ++ text) ∷ map shown (whole_lines facts))))
      (sym (ap (λ spaces. (((line ++ codes "\n") ++ spaces) ++ as_line text) ++ indented facts) (indent-some text)
      ∙ append_assoc ((line ++ codes "\n") ++ codes "  ") (as_line text) (indented facts)
      ∙ append_assoc (line ++ codes "\n") (codes "  ") (as_line text ++ indented facts)
      ∙ append_assoc line (codes "\n") (codes "  " ++ (as_line text ++ indented facts))
      ∙ ap (λ back. line ++ 10 ∷ (codes "  " ++ back)) (append_assoc text (10 ∷ []) (indented facts))))
      (whole-line line (codes "  " ++ (text ++ 10 ∷ indented facts)) ((codes "  " ++ text) ∷ map shown (whole_lines facts)) inner
      (whole-line (codes "  " ++ text) (indented facts) (map shown (whole_lines facts)) plain.inner
      (whole-facts (whole_lines facts) (lines-inner [] facts refl))));
}

-- facts are no lines of a script
facts-indented : (lines : List (List ℕ)) → unindented (map shown lines) ≡ []
facts-indented [] = refl
facts-indented (line ∷ lines) = facts-indented lines

-- facts are no replies
facts-silent : (lines : List (List ℕ)) → replies_in (map shown lines) ≡ []
facts-silent [] = refl
facts-silent (line ∷ lines) = facts-silent lines

-- a reply is no line of the script, since two spaces precede it
behind-indented : (reply : List ℕ) (lines : List (List ℕ)) → Behind reply lines → unindented lines ≡ []
behind-indented reply lines NothingBehind = refl
behind-indented reply lines (ReplyBehind text whole) = refl

-- the reply is what remains of its line without the two spaces
behind-replies : (reply : List ℕ) (lines : List (List ℕ)) → Behind reply lines → replies_in lines ≡ reply
behind-replies reply lines NothingBehind = refl
behind-replies reply lines (ReplyBehind text whole) = rw whole (append-nil (as_line text))

-- what an explanation of lines has
record Has (lines : List (List ℕ)) (text replies : List ℕ) (scene : Scene) : Type 0 where
  pub all : List (List ℕ)
  pub whole : IsWhole text all
  pub script : unindented all ≡ unindented lines
  pub answers : replies_in all ≡ replies
  pub clean : AreClean scene.names

-- the replies among lines of two lists are those of the first, then those of the second
replies-append : (a b : List (List ℕ)) → replies_in (a ++ b) ≡ replies_in a ++ replies_in b
replies-append a b =
    flat_map-append (λ line. if is_indented line && not (is_indented (drop 2 line)) then as_line (drop 2 line) else []) a b

-- each line that is not indented adds itself, its reply and its facts, by induction on the lines
told-has : (pool : ℕ) (lines : List (List ℕ)) (text replies : List ℕ) (scene : Scene) (kept : KeptLines) →
    ExplainsLines pool false first_scene lines text replies scene kept → list_all is_inner lines ≡ true → Has lines text replies scene
told-has pool lines text replies scene kept Begins inner =
    record { all = []; whole = whole-nil; script = refl; answers = refl; clean = record { nodes = refl; trackers = refl } }
told-has pool lines text replies scene kept (Passes before line said given there known so_far skip) inner =
    let both : (list_all is_inner before && list_all is_inner (line ∷ [])) ≡ true =
    sym (list_all-append is_inner before (line ∷ [])) ∙ inner in
    let rest = told-has pool before said given there known so_far
    (and-left (list_all is_inner before) (list_all is_inner (line ∷ [])) both) in
    record {
      all = rest.all;
      whole = rest.whole;
      script = rest.script ∙ sym (unindented-skip before line skip);
      answers = rest.answers;
      clean = rest.clean;
    }
told-has pool lines text replies scene kept
    (Goes before line said given reply facts there next known later so_far bare answers tells) inner =
    let its : List ℕ = numbered_facts (length next.history) (length before + 1) facts in
    let both : (list_all is_inner before && list_all is_inner (line ∷ [])) ≡ true =
    sym (list_all-append is_inner before (line ∷ [])) ∙ inner in
    let rest = told-has pool before said given there known so_far
    (and-left (list_all is_inner before) (list_all is_inner (line ∷ [])) both) in
    let last : is_inner line ≡ true = and-left (is_inner line) true
    (and-right (list_all is_inner before) (list_all is_inner (line ∷ [])) both) in
    let cleanly = answers-clean pool there rest.clean line reply next answers in
    let told = whole-told line reply its last cleanly.reply in
    let shown_facts : List (List ℕ) = map shown (whole_lines its) in
    let behind : List (List ℕ) = told.replies ++ shown_facts in
    let bare_behind : unindented behind ≡ [] =
    filter-append (λ l. not (is_indented l)) told.replies shown_facts
    ∙ ap (λ front. front ++ unindented shown_facts) (behind-indented reply told.replies told.behind)
    ∙ facts-indented (whole_lines its) in
    let replies_behind : replies_in behind ≡ reply =
    replies-append told.replies shown_facts
    ∙ ap (λ front. front ++ replies_in shown_facts) (behind-replies reply told.replies told.behind)
    ∙ ap (λ back. reply ++ back) (facts-silent (whole_lines its)) ∙ append-nil reply in
    let one_line : unindented (line ∷ behind) ≡ line ∷ [] = rw bare (ap (λ ls. line ∷ ls) bare_behind) in
    let one_reply : replies_in (line ∷ behind) ≡ reply = rw bare replies_behind in
    record {
      all = rest.all ++ line ∷ behind;
      whole = whole-append said (told_line line reply its) rest.all (line ∷ behind) rest.whole told.whole;
      script = filter-append (λ l. not (is_indented l)) rest.all (line ∷ behind)
          ∙ ap (λ front. front ++ unindented (line ∷ behind)) rest.script
          ∙ ap (λ back. unindented before ++ back) one_line
          ∙ sym (unindented-more before line bare);
      answers = replies-append rest.all (line ∷ behind)
          ∙ ap (λ front. front ++ replies_in (line ∷ behind)) rest.answers
          ∙ ap (λ back. given ++ back) one_reply;
      clean = cleanly.clean;
    }

-- the lines of the script are those that are not indented, and the replies those that are indented by two spaces
pub script-told : (pool : ℕ) (script text replies : List ℕ) (scene : Scene) (kept : KeptLines) →
    ExplainsLines pool false first_scene (whole_lines script) text replies scene kept →
    unindented (whole_lines text) ≡ unindented (whole_lines script)
script-told pool script text replies scene kept tells =
    let has = told-has pool (whole_lines script) text replies scene kept tells (lines-inner [] script refl) in
    ap unindented has.whole.lines_are ∙ has.script

-- the lines of an explanation that begin with two spaces, but not with four, are the replies
pub replies-told : (pool : ℕ) (script text replies : List ℕ) (scene : Scene) (kept : KeptLines) →
    ExplainsLines pool false first_scene (whole_lines script) text replies scene kept → replies_in (whole_lines text) ≡ replies
replies-told pool script text replies scene kept tells =
    let has = told-has pool (whole_lines script) text replies scene kept tells (lines-inner [] script refl) in
    ap replies_in has.whole.lines_are ∙ has.answers

-- the text of an explanation consists of whole lines: nothing stands behind the last of them
pub text-whole : (pool : ℕ) (script text replies : List ℕ) (scene : Scene) (kept : KeptLines) →
    ExplainsLines pool false first_scene (whole_lines script) text replies scene kept → last_part text ≡ []
text-whole pool script text replies scene kept tells =
    (told-has pool (whole_lines script) text replies scene kept tells (lines-inner [] script refl)).whole.ends

-- the lines of a summary begin with four spaces, so that they are no lines of a script
summary-lines : (text summary facts : List ℕ) → last_part text ≡ [] → summary ≡ indented facts →
    unindented (whole_lines (text ++ summary)) ≡ unindented (whole_lines text)
summary-lines text summary facts ends is =
    let shown_facts : List (List ℕ) = map shown (whole_lines facts) in
    let whole : IsWhole (text ++ summary) (whole_lines text ++ shown_facts) =
    subst (λ (s : List ℕ). IsWhole (text ++ s) (whole_lines text ++ shown_facts)) (sym is)
    (whole-append text (indented facts) (whole_lines text) shown_facts (record { lines_are = refl; ends = ends })
    (whole-facts (whole_lines facts) (lines-inner [] facts refl))) in
    ap unindented whole.lines_are
    ∙ filter-append (λ l. not (is_indented l)) (whole_lines text) shown_facts
    ∙ ap (λ back. unindented (whole_lines text) ++ back) (facts-indented (whole_lines facts))
    ∙ append-nil (unindented (whole_lines text))

-- a summary adds no line to the script, if there is one
pub summed-script : (setting : Setting) (scene : Scene) (text summary : List ℕ) (asked : Bool) → IsSummaryIf asked setting scene summary →
    last_part text ≡ [] → unindented (whole_lines (text ++ summary)) ≡ unindented (whole_lines text)
summed-script setting scene text summary true is ends =
    summary-lines text summary (summary_text scene.names is.last (failing_events setting.pool scene.history)) ends is.told
summed-script setting scene text summary false is ends =
    ap (λ (s : List ℕ). unindented (whole_lines (text ++ s))) is ∙ ap (λ (t : List ℕ). unindented (whole_lines t)) (append-nil text)
