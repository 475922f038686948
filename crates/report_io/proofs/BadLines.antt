-- A line that asks for nothing fails a test: where no test of it fails, it asks for something.
use Rattle.std.proofs.Common.{◌≡◌, ◌∙◌, ℕ, ◌+◌, ◌==◌, Bool, true, false, refl, ap, sym, subst, arith, List, [], ◌∷◌, length, Option, Some, None, if◌then◌else◌, is_some, codes, nat_lt}
use Rattle.std.specs.List.{list_any}
use Rattle.std.specs.Option.{option_and_then, option_map, option_map_or}
use Rattle.std.specs.Str.{bytes_eq}
use Rattle.std.proofs.lemmas.List.Splits.{length-slice_split}
use Rattle.std.proofs.lemmas.Slice.Eq.{bytes_eq-Decides}
use Rattle.sm_names.specs.declared.call_parts.Target.{Target}
use Rattle.sm_names.specs.declared.call_rows.CallKind.{CallKind}
use Rattle.sm_names.specs.CallRows.{kind_named}
use Rattle.script_lines.specs.declared.TheConstants.{MOST_LINE_BYTES}
use Rattle.script_lines.specs.declared.label.Label.{Label}
use Rattle.script_lines.specs.declared.line.Line.{Line}
use Rattle.script_lines.specs.Labels.{label_of}
use Rattle.script_lines.specs.Lines.{ask_of, asked_of, at_end, call_read, is_silent, poll_of, request_of, said_of, show_of, view_of}
use Rattle.script_lines.specs.Words.{words}
use Rattle.script_labels.specs.Names.{Names, act_in, act_of, ask_by, labelled_client, labelled_tracker}
use Rattle.report_io.specs.declared.wanted.Wanted.{Wanted}
use Rattle.report_io.specs.Reasons.{IsReason, Reason, bad_text, bound_reason, client_reason, ends_in, is_empty, label_reason, line_reason, reason_text, reason_unless, rest_reason, said_reason, verb_reason, view_reason, wanted_behind, wanted_of_kind, wanted_on, word_reason, words_reason}
use Rattle.report_io.proofs.GoodWords.{and_then_is, holds_so, none_both, not_there, passed_so, request_so, rest_so, there}

-- where a chain of tests gives no reason, its first test passes, since a failed one gives it
past : (fails : Bool) (r : Reason) (others : Option Reason) → (if fails then Some r else others) ≡ None → (fails ≡ false) × (others ≡ None)
past true r others e = absurd (cc)
past false r others e = (refl, e)

module _ (names : Names) where
  -- what labels stand for is known
  abbrev known : Option Names
  known = Some names

  -- it says what the client or the script asks for
  abbrev Acts : Option Line → Type 0
  Acts said = is_some (option_and_then (act_of names) said) ≡ true

  -- by the test: the form that it picks says something
  acts_if : (test : Bool) (first second : Option Reason) (one other : Option Line) → (test ≡ true → first ≡ None → Acts one) →
      (test ≡ false → second ≡ None → Acts other) → (if test then first else second) ≡ None → Acts (if test then one else other)
  acts_if true first second one other so else_so e = so refl e
  acts_if false first second one other so else_so e = else_so refl e

  -- a view is shown, since its own test reads it, and no word is left
  acts_view : (rest : List (List ℕ)) → view_reason rest ≡ None → Acts (show_of rest)
  acts_view [] e = absurd (cc)
  acts_view (what ∷ []) e =
      let view = there (view_of what) (holds_so _ _ (none_both _ _ e).0) in
      ap (λ o. is_some (option_and_then (act_of names) (option_map (λ v. Line.Show v) o))) view.1
  acts_view (what ∷ word ∷ more) e = absurd (let gone : word ∷ more ≡ [] =
      rest_so (word ∷ more) (none_both (reason_unless (is_some (view_of what)) _) (rest_reason (word ∷ more)) e).1 in cc)

  -- no word is left behind a verb that wants none: one would be too many
  none_left : (verb : List ℕ) (rest : List (List ℕ)) →
      words_reason known verb (Wanted.End ∷ Wanted.End ∷ Wanted.End ∷ Wanted.End ∷ []) rest ≡ None → rest ≡ []
  none_left verb [] e = refl
  none_left verb (word ∷ more) e = absurd (cc)

  -- a client joins, since its label is free and no word is left
  acts_join : (client : Label) (first : List ℕ) (rest : List (List ℕ)) →
      verb_reason known first client (codes "join" ∷ rest) ≡ None → Acts (call_read client (codes "join") rest)
  acts_join client first rest e =
      let both = none_both (client_reason first true (is_some (labelled_client names client)))
      (words_reason known (codes "join") (Wanted.End ∷ Wanted.End ∷ Wanted.End ∷ Wanted.End ∷ []) rest) e in
      let new : labelled_client names client ≡ None = not_there _ (holds_so _ _ both.0) in
      let left : rest ≡ [] = none_left (codes "join") rest both.1 in
      rw (left, new) refl

  -- a client polls a tracker, since both labels are bound and no word is left
  acts_poll : (client : Label) (first verb : List ℕ) (rest : List (List ℕ)) →
      client_reason first false (is_some (labelled_client names client)) ≡ None →
      words_reason known verb (wanted_on Target.Nothing Wanted.Tracker Wanted.End Wanted.End) rest ≡ None →
      Acts (poll_of client rest)
  acts_poll client first verb [] there_is e = absurd (cc)
  acts_poll client first verb (word ∷ rest) there_is e =
      let both = none_both (word_reason known Wanted.Tracker word)
      (words_reason known word (Wanted.End ∷ Wanted.End ∷ Wanted.End ∷ []) rest) e in
      let label = passed_so (λ label. bound_reason known Wanted.Tracker label word) (label_of word) _ both.0 in
      let tracker = there (labelled_tracker names label.0) (holds_so _ _ label.1.1) in
      let its = there (labelled_client names client) (holds_so _ _ there_is) in
      polls word rest label.0 its.0 tracker.0 label.1.0 its.1 tracker.1 (three_gone rest both.1)
    where
      polls : (word : List ℕ) (rest : List (List ℕ)) (label : Label) (c t : ℕ) → label_of word ≡ Some label →
          labelled_client names client ≡ Some c → labelled_tracker names label ≡ Some t → rest ≡ [] → Acts (poll_of client (word ∷ rest))
      polls word rest label c t read one other left = rw (left, read, one, other) refl

      three_gone : (rest : List (List ℕ)) → words_reason known word (Wanted.End ∷ Wanted.End ∷ Wanted.End ∷ []) rest ≡ None → rest ≡ []
      three_gone [] e = refl
      three_gone (w ∷ more) e = absurd (cc)

  -- a client makes a call, since its label is bound and the words behind the verb are good
  acts_ask : (client : Label) (first verb : List ℕ) (rest : List (List ℕ)) (kind : CallKind) → kind_named verb ≡ Some kind →
      client_reason first false (is_some (labelled_client names client)) ≡ None →
      words_reason known verb (wanted_of_kind kind) rest ≡ None → Acts (ask_of client verb rest)
  acts_ask client first verb rest kind named there_is e =
      let asks = request_so names kind verb rest e in
      let its = there (labelled_client names client) (holds_so _ _ there_is) in
      let is : ask_of client verb rest ≡ Some (Line.Ask client asks.request) =
      ap (option_map (λ request. Line.Ask client request))
      (and_then_is (λ kind. request_of kind rest) (kind_named verb) kind named ∙ asks.read) in
      ap (λ o. is_some (option_and_then (act_of names) o)) is
      ∙ ap is_some (and_then_is (λ c. ask_by names c asks.request) (labelled_client names client) its.0 its.1)
      ∙ asks.acts its.0

  -- by the verb: any other than `join` is a poll, or the word of a kind of call
  acts_call : (client : Label) (first verb : List ℕ) (rest : List (List ℕ)) (joins : Bool) → joins ≡ false → (wanted : List Wanted) →
      wanted_behind verb ≡ Some wanted → client_reason first joins (is_some (labelled_client names client)) ≡ None →
      words_reason known verb wanted rest ≡ None →
      Acts (if bytes_eq verb (codes "poll") then poll_of client rest else ask_of client verb rest)
  acts_call client first verb rest true is wanted found there_is e = absurd (cc)
  acts_call client first verb rest false is wanted found there_is e =
      by_test (bytes_eq verb (codes "poll")) found
    where
      kinds : (o : Option CallKind) → kind_named verb ≡ o → option_map (λ kind. wanted_of_kind kind) o ≡ Some wanted →
          Acts (ask_of client verb rest)
      kinds None is_none found = absurd (cc)
      kinds (Some kind) named found =
          let same : wanted_of_kind kind ≡ wanted = cc in
          acts_ask client first verb rest kind named there_is
          (subst (λ (w : List Wanted). words_reason known verb w rest ≡ None) (sym same) e)

      by_test : (test : Bool) → (if test then Some (wanted_on Target.Nothing Wanted.Tracker Wanted.End Wanted.End)
          else option_map (λ kind. wanted_of_kind kind) (kind_named verb)) ≡ Some wanted →
          Acts (if test then poll_of client rest else ask_of client verb rest)
      by_test true found =
          let same : wanted_on Target.Nothing Wanted.Tracker Wanted.End Wanted.End ≡ wanted = cc in
          acts_poll client first verb rest there_is
          (subst (λ (w : List Wanted). words_reason known verb w rest ≡ None) (sym same) e)
      by_test false found = kinds (kind_named verb) refl found

  -- by the verb: a client joins, or does something else
  acts_verb : (first : List ℕ) (client : Label) (rest : List (List ℕ)) → verb_reason known first client rest ≡ None →
      Acts (asked_of client rest)
  acts_verb first client [] e = absurd (cc)
  acts_verb first client (verb ∷ rest) e =
      by_test (bytes_eq verb (codes "join")) refl
    where
      by_test : (test : Bool) → bytes_eq verb (codes "join") ≡ test → Acts (if test then at_end rest (Some (Line.Join client))
          else if bytes_eq verb (codes "poll") then poll_of client rest else ask_of client verb rest)
      by_test true joins =
          let is : verb ≡ codes "join" = (bytes_eq-Decides verb (codes "join")).0 joins in
          acts_join client first rest (subst (λ (v : List ℕ). verb_reason known first client (v ∷ rest) ≡ None) is e)
      by_test false other =
          let found = passed_so _ (wanted_behind verb) _ e in
          let both = none_both (client_reason first (bytes_eq verb (codes "join")) (is_some (labelled_client names client)))
          (words_reason known verb found.0 rest) found.1.1 in
          acts_call client first verb rest (bytes_eq verb (codes "join")) other found.0 found.1.0 both.0 both.1

  -- by the first word: a view is shown, or a client does something
  acts_said : (first : List ℕ) (rest : List (List ℕ)) → said_reason known (first ∷ rest) ≡ None → Acts (said_of (first ∷ rest))
  acts_said first rest e =
      acts_if (bytes_eq first (codes "show")) (view_reason rest) _ (show_of rest) _ (λ shows so. acts_view rest so) asks e
    where
      asks : bytes_eq first (codes "show") ≡ false → label_reason (λ client. verb_reason known first client rest) first ≡ None →
          Acts (option_and_then (λ client. asked_of client rest) (label_of first))
      asks other so =
          let client = passed_so (λ client. verb_reason known first client rest) (label_of first) _ so in
          ap (λ o. is_some (option_and_then (act_of names) (option_and_then (λ client. asked_of client rest) o))) client.1.0
          ∙ acts_verb first client.0 rest client.1.1

  -- a line has one word at least, since it has one more than it has spaces
  acts_words : (all : List (List ℕ)) (spaces : ℕ) → length all ≡ spaces + 1 → said_reason known all ≡ None → Acts (said_of all)
  acts_words [] spaces some e = absurd (omega (arith, some))
  acts_words (first ∷ rest) spaces some e = acts_said first rest e

  -- a line that is not too long says nothing, or what its words say
  acts_short : (long silent : Bool) (said : Option Line) → long ≡ false → Acts said →
      Acts (if long then None else if silent then Some Line.Nothing else said)
  acts_short true silent said short acts = absurd (cc)
  acts_short false true said short acts = refl
  acts_short false false said short acts = acts

  -- a line without a reason asks for something, since it passes the tests of its length and of its words
  acts_line : (line : List ℕ) → line_reason known line ≡ None → is_some (act_in names line) ≡ true
  acts_line line e =
      let long = past (nat_lt MOST_LINE_BYTES (length line)) _ _ e in
      let returns = past (ends_in 13 line) _ _ long.1 in
      let spaces = past (list_any is_empty (words line)) _ _ returns.1 in
      acts_short (nat_lt MOST_LINE_BYTES (length line)) (is_silent line) (said_of (words line)) long.0
      (acts_words (words line) _ (length-slice_split (λ byte. byte == 32) line) spaces.1)

  -- a line that asks for nothing has a reason, since one without asks for something
  pub bad_has_reason : (line : List ℕ) → act_in names line ≡ None → is_some (line_reason known line) ≡ true
  bad_has_reason line bad = by_reason (line_reason known line) refl
    where
      by_reason : (o : Option Reason) → line_reason known line ≡ o → is_some (line_reason known line) ≡ true
      by_reason (Some reason) is = ap is_some is
      by_reason None is =
          let acts : is_some (act_in names line) ≡ true = acts_line line is in
          let gone : is_some (act_in names line) ≡ false = ap is_some bad in
          absurd (cc)

  -- what is told of such a line is its reason, since there is one
  pub reason_told : (line words : List ℕ) → words ≡ bad_text names line → act_in names line ≡ None → IsReason names line words
  reason_told line words told bad =
      let one = there (line_reason known line) (bad_has_reason line bad) in
      (one.0, (one.1, told ∙ ap (λ o. option_map_or reason_text o (codes "no such line")) one.1))
