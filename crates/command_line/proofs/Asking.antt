-- What the words ask for, as it is read of the matches.
use Rattle.std.proofs.Common.{◌≡◌, ◌∙◌, ◌≤◌, ◌<◌, ◌^◌, ℕ, List, Option, Some, None, refl, sym, ap, subst, arith}
use Rattle.std.proofs.lemmas.Int.{ints}
use Rattle.std.specs.Prelude.{Ok, Err, Result, SomeIff, option_map}
use Rattle.std.specs.Str.Parse.{ParsesUnsigned}
use Rattle.sm_names.specs.declared.rules.TheConstants.{MAX_PAGES}
use Rattle.clap.specs.Words.{Row, ReadsOne, Text, first_of, first_value, found_of, one_of, one_text, rows_of, subcommand_rows_of}
use Rattle.clap.specs.declared.parser.matches.ArgMatches.{ArgMatches}
use Rattle.clap.proofs.WalkLemmas.{first_value-rows, one_text-rows}
use Rattle.command_line.specs.declared.task.Search.{Search}
use Rattle.report_io.specs.declared.view.Until.{Until}
use Rattle.command_line.specs.Asked.{AreAsked, IsCount, IsNumberRead, IsSearch, IsUntil, IsVanishing, subcommand_text, value_text, written_number}

-- the text is that of the subcommand's own matches
pub its_text : (id : List ℕ) (matches inner : ArgMatches) (o : Option (Text × List Row)) →
    Some (rows_of (found_of inner)) ≡ option_map (λ p. p.1) o → subcommand_rows_of matches ≡ o →
    value_text id matches ≡ one_text (found_of inner) id
its_text id matches inner None rows is = cc
its_text id matches inner (Some p) rows is =
    let same : rows_of (found_of inner) ≡ p.1 = cc in
    rw is (ap (one_of id) (sym same)) ∙ sym (one_text-rows (found_of inner) id)

-- another text is that of the subcommand's own matches too
pub first_text : (id : List ℕ) (matches inner : ArgMatches) (o : Option (Text × List Row)) →
    Some (rows_of (found_of inner)) ≡ option_map (λ p. p.1) o → subcommand_rows_of matches ≡ o →
    subcommand_text id matches ≡ first_value (found_of inner) id
first_text id matches inner None rows is = cc
first_text id matches inner (Some p) rows is =
    let same : rows_of (found_of inner) ≡ p.1 = cc in
    rw is (ap (first_of id) (sym same)) ∙ sym (first_value-rows (found_of inner) id)

-- a text that u32 can't read is no count, nor one that reads as a number out of range
module _ {E : Type 0} (gives : List ℕ → Result ℕ E → Type 0) (only : (t : List ℕ) (r : Result ℕ E) → gives t r →
    ParsesUnsigned 32 10 t r) where
  -- a text that u32 can't read writes no count, because each count in range fits 32 bits
  pub unread : (text : Option (List ℕ)) (read : Option ℕ) → (text ≡ None → read ≡ None) → ((t : List ℕ) → text ≡ Some t →
      ReadsOne gives t read) →
      read ≡ None → AreAsked text None
  unread None read none value is = refl
  unread (Some t) (Some n) none value is = cc
  unread (Some t) None none value is =
      let h = value t refl in
      λ count. only t (Err h.0) h.1 (count.numeral, below count.in_range.1)
    where
      below : (written_number t ≤ MAX_PAGES) → written_number t < 2 ^ 32
      below le = omega (arith, ints, le)

  -- the range check on the number that u32 reads decides whether the text writes a count
  in_range : (t : List ℕ) (n : ℕ) (count : Option ℕ) → gives t (Ok n) → SomeIff count ((1 ≤ n) × (n ≤ MAX_PAGES)) n →
      SomeIff count (IsCount t) (written_number t)
  in_range t n (Some k) read some =
      let p = only t (Ok n) read in
      (record { numeral = p.0.0; in_range = subst (λ (v : ℕ). (1 ≤ v) × (v ≤ MAX_PAGES)) p.1 some.0 }, some.1 ∙ p.1)
  in_range t n None read none =
      let p = only t (Ok n) read in
      λ count. none (subst (λ (v : ℕ). (1 ≤ v) × (v ≤ MAX_PAGES)) (sym p.1) count.in_range)

  -- and one that reads as a number in range is that count
  pub was_read : (text : Option (List ℕ)) (read : Option ℕ) (n : ℕ) (count : Option ℕ) → (text ≡ None → read ≡ None) →
      ((t : List ℕ) → text ≡ Some t → ReadsOne gives t read) →
      read ≡ Some n → SomeIff count ((1 ≤ n) × (n ≤ MAX_PAGES)) n → AreAsked text count
  was_read None read n count none value is made = let no : Some n ≡ None = sym is ∙ none refl in cc
  was_read (Some t) read n count none value is made =
      in_range t n count (subst (ReadsOne gives t) is (value t refl)) made

-- a text that u64 reads is that number, and one that it can't read is no number
module _ {E : Type 0} (gives : List ℕ → Result ℕ E → Type 0) (only : (t : List ℕ) (r : Result ℕ E) → gives t r →
    ParsesUnsigned 64 10 t r) where
  -- u64 accepts exactly the numerals that fit 64 bits, so the number read is the one written
  pub is_read : (text : Option (List ℕ)) (read : Option ℕ) → (text ≡ None → read ≡ None) → ((t : List ℕ) → text ≡ Some t →
      ReadsOne gives t read) → IsNumberRead text read
  is_read None read none value = none refl
  is_read (Some t) (Some n) none value =
      let p = only t (Ok n) (value t refl) in
      (record { numeral = p.0.0; fits = p.0.1 }, p.1)
  is_read (Some t) None none value =
      let h = value t refl in
      λ number. only t (Err h.0) h.1 (number.numeral, number.fits)

-- the numbers that are read of equal texts are the same
pub until-same : (event line failure its_event its_line its_failure : Option (List ℕ)) (until : Until) → its_event ≡ event →
    its_line ≡ line → its_failure ≡ failure → IsUntil event line failure until → IsUntil its_event its_line its_failure until
until-same event line failure its_event its_line its_failure until e l f read = record {
  event_number = read.event_number;
  line_number = read.line_number;
  failure_number = read.failure_number;
  event_read = subst (λ (t : Option (List ℕ)). IsNumberRead t read.event_number) (sym e) read.event_read;
  line_read = subst (λ (t : Option (List ℕ)). IsNumberRead t read.line_number) (sym l) read.line_read;
  failure_read = subst (λ (t : Option (List ℕ)). IsNumberRead t read.failure_number) (sym f) read.failure_read;
  is = read.is;
}

-- so is what they ask a search for
pub search-same : (outcome states its_outcome its_states : Option (List ℕ)) (search : Search) → its_outcome ≡ outcome →
    its_states ≡ states → IsSearch outcome states search → IsSearch its_outcome its_states search
search-same outcome states its_outcome its_states search o s read = record {
  outcome_read = subst (λ (t : Option (List ℕ)). IsNumberRead t search.outcome) (sym o) read.outcome_read;
  states_number = read.states_number;
  states_read = subst (λ (t : Option (List ℕ)). IsNumberRead t read.states_number) (sym s) read.states_read;
  states_is = read.states_is;
}

-- so are who vanishes, and how many
pub vanishing-same : (vanish most its_vanish its_most : Option (List ℕ)) (search : Search) → its_vanish ≡ vanish → its_most ≡ most →
    IsVanishing vanish most search → IsVanishing its_vanish its_most search
vanishing-same vanish most its_vanish its_most search v m read = record {
  clients = read.clients ∙ sym v;
  most_number = read.most_number;
  most_read = subst (λ (t : Option (List ℕ)). IsNumberRead t read.most_number) (sym m) read.most_read;
  most_is = read.most_is;
}
