-- Words of a call that pass their tests: what is read of them, and what the labels among them stand for.
use Rattle.std.proofs.Common.{◌≡◌, ◌∙◌, ℕ, Bool, true, false, ◌&&◌, nat_le, not, refl, ap, sym, List, [], ◌∷◌, Option, Some, None, is_some, codes, subst}
use Rattle.std.specs.Option.{option_and_then, option_map, option_map_or}
use Rattle.std.specs.Str.{bytes_eq}
use Rattle.std.proofs.lemmas.Bool.{and_parts}
use Rattle.sm_names.specs.declared.call_parts.Argument.{Argument}
use Rattle.sm_names.specs.declared.call_parts.ArgumentForm.{ArgumentForm}
use Rattle.sm_names.specs.declared.call_parts.Object.{Object}
use Rattle.sm_names.specs.declared.call_parts.Product.{Product}
use Rattle.sm_names.specs.declared.call_parts.Target.{Target}
use Rattle.sm_names.specs.declared.call_rows.CallKind.{CallKind}
use Rattle.sm_names.specs.declared.keys.BufferName.{BufferName}
use Rattle.sm_names.specs.declared.keys.NodeKey.{NodeKey}
use Rattle.sm_names.specs.declared.keys.Strength.{Strength}
use Rattle.sm_names.specs.declared.messages.Call.{Call}
use Rattle.sm_names.specs.declared.rules.TheConstants.{MAX_AT_LEAST, MAX_CAMPING, MAX_SIZE}
use Rattle.sm_names.specs.CallRows.{call_made, is_tracker, row_of}
use Rattle.sm_names.specs.Demands.{Demand}
use Rattle.script_lines.specs.declared.buffer_label.BufferLabel.{BufferLabel}
use Rattle.script_lines.specs.declared.label.Label.{Label}
use Rattle.script_lines.specs.declared.line.Request.{Request}
use Rattle.script_lines.specs.BufferLabels.{buffer_label_of}
use Rattle.script_lines.specs.Labels.{label_of}
use Rattle.script_lines.specs.Lines.{argument_read, binds_read, demand_of, first_read, gift_read, object_read, request_of, strength_named}
use Rattle.script_lines.specs.Numbers.{number_of}
use Rattle.script_labels.specs.Names.{Names, Place, act_binding, argument_named, ask_by, call_named, labelled_client, labelled_node, labelled_place, labelled_tracker, object_named}
use Rattle.report_io.specs.declared.wanted.Wanted.{Wanted}
use Rattle.report_io.specs.Reasons.{Reason, bound_reason, new_wanted, reason_or, reason_unless, rest_reason, wanted_by, wanted_of_kind, wanted_on, word_reason, words_reason}

-- ---- tests

-- where two tests together give no reason, neither does: the first reason would be the answer
pub none_both : (a b : Option Reason) → reason_or a b ≡ None → (a ≡ None) × (b ≡ None)
none_both None b e = (refl, e)
none_both (Some r) b e = absurd (cc)

-- a test that gives no reason holds, since one that fails gives it
pub holds_so : (b : Bool) (r : Reason) → reason_unless b r ≡ None → b ≡ true
holds_so true r e = refl
holds_so false r e = absurd (cc)

-- what is there is some value
pub there : {A : Type 0} (o : Option A) → is_some o ≡ true → (a : A) × (o ≡ Some a)
there (Some a) e = (a, refl)
there None e = absurd (cc)

-- what is not there is none
pub not_there : {A : Type 0} (o : Option A) → not (is_some o) ≡ true → o ≡ None
not_there (Some a) e = absurd (cc)
not_there None e = refl

-- where reading and a test give no reason, it is read, since an unread word gives one
pub passed_so : {A : Type 0} (test : A → Option Reason) (o : Option A) (r : Reason) → option_map_or test o (Some r) ≡ None →
    (a : A) × ((o ≡ Some a) × (test a ≡ None))
passed_so test None r e = absurd (cc)
passed_so test (Some a) r e = (a, (refl, e))

-- where a word too many is no reason, no word is left
pub rest_so : (rest : List (List ℕ)) → rest_reason rest ≡ None → rest ≡ []
rest_so [] e = refl
rest_so (word ∷ more) e = absurd (cc)

-- what follows a value is what it leads to, where the value is there
pub and_then_is : {A B : Type 0} (f : A → Option B) (o : Option A) (a : A) → o ≡ Some a → option_and_then f o ≡ f a
and_then_is f o a e = ap (option_and_then f) e

-- a missing word is a reason, whatever the test before it gives
pub never_missing : (a : Option Reason) (r : Reason) → reason_or a (Some r) ≡ None → ⊥
never_missing None r e = cc
never_missing (Some s) r e = cc

-- a word within bounds spells a number, since a word that spells none is within no bounds
numbered : (o : Option ℕ) (least most : ℕ) → option_map_or (λ n. nat_le least n && nat_le n most) o false ≡ true →
    (n : ℕ) × ((o ≡ Some n) × ((nat_le least n ≡ true) × (nat_le n most ≡ true)))
numbered None least most e = absurd (cc)
numbered (Some n) least most e = (n, (refl, and_parts (nat_le least n) (nat_le n most) e))

-- three numbers are constraints, since each passes its own bounds
demand_is : (camping at_least size : List ℕ) (c l s : ℕ) → number_of camping ≡ Some c → number_of at_least ≡ Some l →
    number_of size ≡ Some s → nat_le c MAX_CAMPING ≡ true → nat_le l MAX_AT_LEAST ≡ true → nat_le 1 s ≡ true → nat_le s MAX_SIZE ≡ true →
    demand_of camping at_least size ≡ Some (record { camping = c; at_least = l; size = s })
demand_is camping at_least size c l s first second third few enough some within =
    rw (first, second, third, few, enough, some, within) refl

-- a strength and a label are a gift, each read by itself
gift_is : (word to : List ℕ) (rest : List (List ℕ)) (strength : Strength) (client : Label) → strength_named word ≡ Some strength →
    label_of to ≡ Some client → gift_read (word ∷ to ∷ rest) ≡ Some (Argument.Gift strength client, rest)
gift_is word to rest strength client first second = rw (first, second) refl

-- a last label is read, and leaves no word
label_is : (word : List ℕ) (rest : List (List ℕ)) (label : Label) → label_of word ≡ Some label → rest ≡ [] →
    first_read (λ word. option_map Some (label_of word)) (word ∷ rest) ≡ Some (Some label, [])
label_is word rest label first last = rw (first, last) refl

module _ (names : Names) where
  -- what labels stand for is known
  abbrev known : Option Names
  known = Some names

  -- ---- what the call is made on

  -- this is what a call on such a target is made on
  abbrev is_on : Target → Object NodeKey BufferName → Bool
  is_on Target.Nothing Object.Nothing = true
  is_on Target.Handle (Object.Buffer buffer) = true
  is_on Target.Token (Object.Node key) = true
  is_on Target.Collection (Object.Node key) = true
  is_on Target.End (Object.Node key) = true
  is_on _ _ = false

  -- it is read, and its label stands for something; these words are to follow
  record ObjectRead (on : Target) (words : List (List ℕ)) (wanted : List Wanted) : Type 0 where
    object : Object Label BufferLabel
    rest : List (List ℕ)
    read : object_read on words ≡ Some (object, rest)
    key : Object NodeKey BufferName
    named : object_named names object ≡ Some key
    fits : is_on on key ≡ true
    last : List ℕ
    left : words_reason known last wanted rest ≡ None

  module _ (a b c : Wanted) where
    -- a fourth word that is to be none adds nothing: a word there is too many in both lists
    three_left : (last : List ℕ) (words : List (List ℕ)) → words_reason known last (a ∷ b ∷ c ∷ Wanted.End ∷ []) words ≡ None →
        words_reason known last (a ∷ b ∷ c ∷ []) words ≡ None
    three_left last [] e = e
    three_left last (w ∷ []) e = e
    three_left last (w ∷ x ∷ []) e = e
    three_left last (w ∷ x ∷ y ∷ []) e = e
    three_left last (w ∷ x ∷ y ∷ z ∷ more) e = e

    -- a first word for a node is read by its label, which its own test finds bound
    object_node : (on : Target) (last : List ℕ) (words : List (List ℕ)) →
        ((ws : List (List ℕ)) → object_read on ws ≡ first_read (λ word. option_map Object.Node (label_of word)) ws) →
        ((key : NodeKey) → is_on on (Object.Node key) ≡ true) →
        words_reason known last (Wanted.Node ∷ a ∷ b ∷ c ∷ []) words ≡ None → ObjectRead on words (a ∷ b ∷ c ∷ [])
    object_node on last [] reads fits e = absurd (cc)
    object_node on last (word ∷ rest) reads fits e =
        let both = none_both (word_reason known Wanted.Node word) (words_reason known word (a ∷ b ∷ c ∷ []) rest) e in
        let label = passed_so (λ label. bound_reason known Wanted.Node label word) (label_of word) _ both.0 in
        let key = there (labelled_node names label.0) (holds_so _ _ label.1.1) in
        record {
          object = Object.Node label.0;
          rest = rest;
          read = reads (word ∷ rest)
              ∙ ap (λ (o : Option Label). option_map (λ said. (said, rest)) (option_map Object.Node o)) label.1.0;
          key = Object.Node key.0;
          named = ap (option_map Object.Node) key.1;
          fits = fits key.0;
          last = word;
          left = both.1;
        }

    -- a first word for a handle is read by its buffer, of which its own test finds the node bound
    object_buffer : (last : List ℕ) (words : List (List ℕ)) →
        words_reason known last (Wanted.Buffer ∷ a ∷ b ∷ c ∷ []) words ≡ None → ObjectRead Target.Handle words (a ∷ b ∷ c ∷ [])
    object_buffer last [] e = absurd (cc)
    object_buffer last (word ∷ rest) e =
        let both = none_both (word_reason known Wanted.Buffer word) (words_reason known word (a ∷ b ∷ c ∷ []) rest) e in
        let label = passed_so _ (buffer_label_of word) _ both.0 in
        let key = there (labelled_node names label.0.node) (holds_so _ _ label.1.1) in
        let place = mapped (labelled_place names label.0.node) key.0 key.1 in
        record {
          object = Object.Buffer label.0;
          rest = rest;
          read = ap (λ (o : Option BufferLabel). option_map (λ said. (said, rest)) (option_map Object.Buffer o)) label.1.0;
          key = Object.Buffer (record { collection = place.0.1; index = label.0.index });
          named = ap (λ (o : Option Place).
              option_map Object.Buffer (option_map (λ (p : Place). record { collection = p.1; index = label.0.index }) o)) place.1;
          fits = refl;
          last = word;
          left = both.1;
        }
      where
        mapped : (o : Option Place) (key : NodeKey) → option_map (λ (p : Place). p.0) o ≡ Some key → (p : Place) × (o ≡ Some p)
        mapped None key e = absurd (cc)
        mapped (Some p) key e = (p, refl)

  -- by the target: the first word is what the call is made on, and the three others follow
  object_so : (on : Target) (a b c : Wanted) (last : List ℕ) (words : List (List ℕ)) →
      words_reason known last (wanted_on on a b c) words ≡ None → ObjectRead on words (a ∷ b ∷ c ∷ [])
  object_so Target.Nothing a b c last words e = record {
    object = Object.Nothing;
    rest = words;
    read = refl;
    key = Object.Nothing;
    named = refl;
    fits = refl;
    last = last;
    left = three_left a b c last words e;
  }
  object_so Target.Handle a b c last words e = object_buffer a b c last words e
  object_so Target.Token a b c last words e = object_node a b c Target.Token last words (λ ws. refl) (λ key. refl) e
  object_so Target.Collection a b c last words e = object_node a b c Target.Collection last words (λ ws. refl) (λ key. refl) e
  object_so Target.End a b c last words e = object_node a b c Target.End last words (λ ws. refl) (λ key. refl) e

  -- ---- what else the call says

  -- this is what such a call says
  abbrev is_said : ArgumentForm → Argument ℕ → Bool
  is_said ArgumentForm.Nothing Argument.Nothing = true
  is_said ArgumentForm.Client (Argument.Client to) = true
  is_said ArgumentForm.Children (Argument.Children children) = true
  is_said ArgumentForm.Constraints (Argument.Constraints constraints) = true
  is_said ArgumentForm.Most (Argument.Most most) = true
  is_said ArgumentForm.Strength (Argument.Strength strength) = true
  is_said ArgumentForm.Gift (Argument.Gift strength to) = true
  is_said _ _ = false

  -- the words of a call behind what it is made on, where this is what it brings
  abbrev three : ArgumentForm → Wanted → List Wanted
  three ArgumentForm.Nothing new = new ∷ Wanted.End ∷ Wanted.End ∷ []
  three ArgumentForm.Client new = Wanted.Client ∷ new ∷ Wanted.End ∷ []
  three ArgumentForm.Children new = Wanted.Children ∷ new ∷ Wanted.End ∷ []
  three ArgumentForm.Constraints new = Wanted.Camping ∷ Wanted.AtLeast ∷ Wanted.Size ∷ []
  three ArgumentForm.Most new = Wanted.Number ∷ new ∷ Wanted.End ∷ []
  three ArgumentForm.Strength new = Wanted.Strength ∷ new ∷ Wanted.End ∷ []
  three ArgumentForm.Gift new = Wanted.Strength ∷ Wanted.Client ∷ new ∷ []

  -- a call that says what may be left out, or three numbers, brings nothing
  abbrev Ends : ArgumentForm → Wanted → Type 0
  Ends ArgumentForm.Children new = new ≡ Wanted.End
  Ends ArgumentForm.Constraints new = new ≡ Wanted.End
  Ends _ new = Unit {0}

  -- it is read, and its label stands for a client; then this is to follow
  record ArgumentRead (says : ArgumentForm) (words : List (List ℕ)) (new : Wanted) : Type 0 where
    argument : Argument Label
    rest : List (List ℕ)
    read : argument_read says words ≡ Some (argument, rest)
    given : Argument ℕ
    named : argument_named names argument ≡ Some given
    fits : is_said says given ≡ true
    last : List ℕ
    left : words_reason known last (new ∷ []) rest ≡ None

  -- where no word is left, an end is no reason either
  ended_so : (last : List ℕ) (rest : List (List ℕ)) → rest_reason rest ≡ None → words_reason known last (Wanted.End ∷ []) rest ≡ None
  ended_so last [] e = refl
  ended_so last (word ∷ more) e = absurd (cc)

  -- words that are to be none add nothing: a word there is too many in both lists
  one_left : (new : Wanted) (last : List ℕ) (words : List (List ℕ)) →
      words_reason known last (new ∷ Wanted.End ∷ []) words ≡ None → words_reason known last (new ∷ []) words ≡ None
  one_left new last [] e = e
  one_left new last (w ∷ []) e = e
  one_left new last (w ∷ x ∷ more) e = e

  -- a word for a client is read by its label, which its own test finds bound
  client_so : (word : List ℕ) → word_reason known Wanted.Client word ≡ None →
      (label : Label) × ((label_of word ≡ Some label) × ((client : ℕ) × (labelled_client names label ≡ Some client)))
  client_so word e =
      let label = passed_so (λ label. bound_reason known Wanted.Client label word) (label_of word) _ e in
      (label.0, (label.1.0, there (labelled_client names label.0) (holds_so _ _ label.1.1)))

  -- nothing else is said, so that no word is read
  says_nothing : (new : Wanted) (last : List ℕ) (words : List (List ℕ)) →
      words_reason known last (new ∷ Wanted.End ∷ Wanted.End ∷ []) words ≡ None → ArgumentRead ArgumentForm.Nothing words new
  says_nothing new last words e = record {
    argument = Argument.Nothing;
    rest = words;
    read = refl;
    given = Argument.Nothing;
    named = refl;
    fits = refl;
    last = last;
    left = none_left last words e;
  }
    where
      none_left : (last : List ℕ) (words : List (List ℕ)) →
          words_reason known last (new ∷ Wanted.End ∷ Wanted.End ∷ []) words ≡ None → words_reason known last (new ∷ []) words ≡ None
      none_left last [] e = e
      none_left last (w ∷ []) e = e
      none_left last (w ∷ x ∷ more) e = e

  -- a word for a client is read as that
  says_client : (new : Wanted) (last : List ℕ) (words : List (List ℕ)) →
      words_reason known last (Wanted.Client ∷ new ∷ Wanted.End ∷ []) words ≡ None → ArgumentRead ArgumentForm.Client words new
  says_client new last [] e = absurd (cc)
  says_client new last (word ∷ rest) e =
      let both = none_both (word_reason known Wanted.Client word) (words_reason known word (new ∷ Wanted.End ∷ []) rest) e in
      let client = client_so word both.0 in
      record {
        argument = Argument.Client client.0;
        rest = rest;
        read = ap (λ (o : Option Label). option_map (λ said. (said, rest)) (option_map Argument.Client o)) client.1.0;
        given = Argument.Client client.1.1.0;
        named = ap (option_map Argument.Client) client.1.1.1;
        fits = refl;
        last = word;
        left = one_left new word rest both.1;
      }

  -- `children` is read as that, and no word as none
  says_children : (last : List ℕ) (words : List (List ℕ)) →
      words_reason known last (Wanted.Children ∷ Wanted.End ∷ Wanted.End ∷ []) words ≡ None →
      ArgumentRead ArgumentForm.Children words Wanted.End
  says_children last [] e = record {
    argument = Argument.Children false;
    rest = [];
    read = refl;
    given = Argument.Children false;
    named = refl;
    fits = refl;
    last = last;
    left = refl;
  }
  says_children last (word ∷ rest) e =
      let both = none_both (word_reason known Wanted.Children word) (words_reason known word (Wanted.End ∷ Wanted.End ∷ []) rest) e in
      let is : bytes_eq word (codes "children") ≡ true = holds_so _ _ both.0 in
      record {
        argument = Argument.Children true;
        rest = rest;
        read = rw is refl;
        given = Argument.Children true;
        named = refl;
        fits = refl;
        last = word;
        left = one_left Wanted.End word rest both.1;
      }

  -- three words for numbers are read, since each is within its bounds
  says_constraints : (last : List ℕ) (words : List (List ℕ)) →
      words_reason known last (Wanted.Camping ∷ Wanted.AtLeast ∷ Wanted.Size ∷ []) words ≡ None →
      ArgumentRead ArgumentForm.Constraints words Wanted.End
  says_constraints last [] e = absurd (cc)
  says_constraints last (camping ∷ []) e = absurd (never_missing _ _ e)
  says_constraints last (camping ∷ at_least ∷ []) e = absurd (never_missing _ _ (none_both _ _ e).1)
  says_constraints last (camping ∷ at_least ∷ size ∷ rest) e =
      let one = none_both (word_reason known Wanted.Camping camping) _ e in
      let two = none_both (word_reason known Wanted.AtLeast at_least) _ one.1 in
      let all = none_both (word_reason known Wanted.Size size) (rest_reason rest) two.1 in
      let c = numbered (number_of camping) 0 MAX_CAMPING (holds_so _ _ one.0) in
      let l = numbered (number_of at_least) 0 MAX_AT_LEAST (holds_so _ _ two.0) in
      let s = numbered (number_of size) 1 MAX_SIZE (holds_so _ _ all.0) in
      let demand : Demand = record { camping = c.0; at_least = l.0; size = s.0 } in
      let is : demand_of camping at_least size ≡ Some demand =
      demand_is camping at_least size c.0 l.0 s.0 c.1.0 l.1.0 s.1.0 c.1.1.1 l.1.1.1 s.1.1.0 s.1.1.1 in
      record {
        argument = Argument.Constraints demand;
        rest = rest;
        read = ap (λ (o : Option Demand). option_map (λ said. (said, rest)) (option_map Argument.Constraints o)) is;
        given = Argument.Constraints demand;
        named = refl;
        fits = refl;
        last = size;
        left = ended_so size rest all.1;
      }

  -- a word for a number is read, since it is within bounds that 32 bits have
  says_most : (new : Wanted) (last : List ℕ) (words : List (List ℕ)) →
      words_reason known last (Wanted.Number ∷ new ∷ Wanted.End ∷ []) words ≡ None → ArgumentRead ArgumentForm.Most words new
  says_most new last [] e = absurd (cc)
  says_most new last (word ∷ rest) e =
      let both = none_both (word_reason known Wanted.Number word) (words_reason known word (new ∷ Wanted.End ∷ []) rest) e in
      let most = numbered (number_of word) 0 4294967295 (holds_so _ _ both.0) in
      record {
        argument = Argument.Most most.0;
        rest = rest;
        read = ap (λ (o : Option ℕ). option_map (λ said. (said, rest)) (option_map Argument.Most o)) most.1.0;
        given = Argument.Most most.0;
        named = refl;
        fits = refl;
        last = word;
        left = one_left new word rest both.1;
      }

  -- a word for a strength is read as that
  says_strength : (new : Wanted) (last : List ℕ) (words : List (List ℕ)) →
      words_reason known last (Wanted.Strength ∷ new ∷ Wanted.End ∷ []) words ≡ None → ArgumentRead ArgumentForm.Strength words new
  says_strength new last [] e = absurd (cc)
  says_strength new last (word ∷ rest) e =
      let both = none_both (word_reason known Wanted.Strength word) (words_reason known word (new ∷ Wanted.End ∷ []) rest) e in
      let strength = there (strength_named word) (holds_so _ _ both.0) in
      record {
        argument = Argument.Strength strength.0;
        rest = rest;
        read = ap (λ (o : Option Strength). option_map (λ said. (said, rest)) (option_map Argument.Strength o)) strength.1;
        given = Argument.Strength strength.0;
        named = refl;
        fits = refl;
        last = word;
        left = one_left new word rest both.1;
      }

  -- two words for a strength and a client are read, each by its own test
  says_gift : (new : Wanted) (last : List ℕ) (words : List (List ℕ)) →
      words_reason known last (Wanted.Strength ∷ Wanted.Client ∷ new ∷ []) words ≡ None → ArgumentRead ArgumentForm.Gift words new
  says_gift new last [] e = absurd (cc)
  says_gift new last (word ∷ []) e = absurd (never_missing _ _ e)
  says_gift new last (word ∷ to ∷ rest) e =
      let one = none_both (word_reason known Wanted.Strength word) _ e in
      let both = none_both (word_reason known Wanted.Client to) (words_reason known to (new ∷ []) rest) one.1 in
      let strength = there (strength_named word) (holds_so _ _ one.0) in
      let client = client_so to both.0 in
      record {
        argument = Argument.Gift strength.0 client.0;
        rest = rest;
        read = gift_is word to rest strength.0 client.0 strength.1 client.1.0;
        given = Argument.Gift strength.0 client.1.1.0;
        named = ap (option_map (Argument.Gift strength.0)) client.1.1.1;
        fits = refl;
        last = to;
        left = both.1;
      }

  -- by the form: what else the call says is read of the words that it wants
  argument_so : (says : ArgumentForm) (new : Wanted) (last : List ℕ) (words : List (List ℕ)) → Ends says new →
      words_reason known last (three says new) words ≡ None → ArgumentRead says words new
  argument_so ArgumentForm.Nothing new last words ends e = says_nothing new last words e
  argument_so ArgumentForm.Client new last words ends e = says_client new last words e
  argument_so ArgumentForm.Children new last words ends e =
      subst (λ (w : Wanted). ArgumentRead ArgumentForm.Children words w) (sym ends)
      (says_children last words (subst (λ (w : Wanted). words_reason known last (three ArgumentForm.Children w) words ≡ None) ends e))
  argument_so ArgumentForm.Constraints new last words ends e =
      subst (λ (w : Wanted). ArgumentRead ArgumentForm.Constraints words w) (sym ends) (says_constraints last words e)
  argument_so ArgumentForm.Most new last words ends e = says_most new last words e
  argument_so ArgumentForm.Strength new last words ends e = says_strength new last words e
  argument_so ArgumentForm.Gift new last words ends e = says_gift new last words e

  -- ---- what the call brings

  -- its label is read, and is to be bound to nothing that is there
  record BindsRead (brings : Product) (words : List (List ℕ)) : Type 0 where
    binds : Option Label
    read : binds_read brings words ≡ Some (binds, [])
    acts : (client : ℕ) (call : Call) → is_some (act_binding names brings client call binds) ≡ true

  -- what brings nothing with a label reads no word, and none is left
  brings_nothing : (brings : Product) (last : List ℕ) (words : List (List ℕ)) →
      ((ws : List (List ℕ)) → binds_read brings ws ≡ Some (None, ws)) →
      words_reason known last (Wanted.End ∷ []) words ≡ None → BindsRead brings words
  brings_nothing brings last [] reads e = record { binds = None; read = reads []; acts = λ client call. refl }
  brings_nothing brings last (word ∷ more) reads e = absurd (cc)

  -- a word for a new node is read by its label, which its own test finds free
  brings_node : (brings : Product) (last : List ℕ) (words : List (List ℕ)) →
      ((ws : List (List ℕ)) → binds_read brings ws ≡ first_read (λ word. option_map Some (label_of word)) ws) → is_tracker brings ≡ false →
      words_reason known last (Wanted.NewNode ∷ []) words ≡ None → BindsRead brings words
  brings_node brings last [] reads none e = absurd (cc)
  brings_node brings last (word ∷ rest) reads none e =
      let both = none_both (word_reason known Wanted.NewNode word) (rest_reason rest) e in
      let label = passed_so (λ label. bound_reason known Wanted.NewNode label word) (label_of word) _ both.0 in
      let free : labelled_node names label.0 ≡ None = not_there _ (holds_so _ _ label.1.1) in
      record {
        binds = Some label.0;
        read = reads (word ∷ rest) ∙ label_is word rest label.0 label.1.0 (rest_so rest both.1);
        acts = λ client call. rw (none, free) refl;
      }

  -- a word for a new tracker is read by its label, which its own test finds free
  brings_tracker : (last : List ℕ) (words : List (List ℕ)) →
      words_reason known last (Wanted.NewTracker ∷ []) words ≡ None → BindsRead Product.Tracker words
  brings_tracker last [] e = absurd (cc)
  brings_tracker last (word ∷ rest) e =
      let both = none_both (word_reason known Wanted.NewTracker word) (rest_reason rest) e in
      let label = passed_so (λ label. bound_reason known Wanted.NewTracker label word) (label_of word) _ both.0 in
      let free : labelled_tracker names label.0 ≡ None = not_there _ (holds_so _ _ label.1.1) in
      record {
        binds = Some label.0;
        read = label_is word rest label.0 label.1.0 (rest_so rest both.1);
        acts = λ client call. rw free refl;
      }

  -- by what the call brings: its label is read, and none is left
  binds_so : (brings : Product) (last : List ℕ) (words : List (List ℕ)) →
      words_reason known last (new_wanted brings ∷ []) words ≡ None → BindsRead brings words
  binds_so Product.Nothing last words e = brings_nothing Product.Nothing last words (λ ws. refl) e
  binds_so Product.Client last words e = brings_nothing Product.Client last words (λ ws. refl) e
  binds_so Product.Collection last words e = brings_node Product.Collection last words (λ ws. refl) refl e
  binds_so Product.Node last words e = brings_node Product.Node last words (λ ws. refl) refl e
  binds_so Product.Parcel last words e = brings_node Product.Parcel last words (λ ws. refl) refl e
  binds_so Product.Handles last words e = brings_nothing Product.Handles last words (λ ws. refl) e
  binds_so Product.Tracker last words e = brings_tracker last words e

  -- ---- a call

  -- by the kind: an object and an argument of the forms in its row make its call
  made_so : (kind : CallKind) (object : Object NodeKey BufferName) (argument : Argument ℕ) → is_on (row_of kind).on object ≡ true →
      is_said (row_of kind).says argument ≡ true → is_some (call_made kind object argument) ≡ true
  made_so CallKind.Join Object.Nothing Argument.Nothing on said = refl
  made_so CallKind.Shut Object.Nothing Argument.Nothing on said = refl
  made_so CallKind.OpenRoot Object.Nothing Argument.Nothing on said = refl
  made_so CallKind.Duplicate (Object.Node key) Argument.Nothing on said = refl
  made_so CallKind.AttachToken (Object.Node key) Argument.Nothing on said = refl
  made_so CallKind.Sync (Object.Node key) Argument.Nothing on said = refl
  made_so CallKind.Give (Object.Node key) (Argument.Client to) on said = refl
  made_so CallKind.Collect Object.Nothing Argument.Nothing on said = refl
  made_so CallKind.Bind (Object.Node key) Argument.Nothing on said = refl
  made_so CallKind.SetDispensable (Object.Node key) Argument.Nothing on said = refl
  made_so CallKind.SetWeak (Object.Node key) Argument.Nothing on said = refl
  made_so CallKind.SetWeakOk (Object.Node key) (Argument.Children children) on said = refl
  made_so CallKind.SetConstraints (Object.Node key) (Argument.Constraints constraints) on said = refl
  made_so CallKind.Check (Object.Node key) Argument.Nothing on said = refl
  made_so CallKind.Take (Object.Node key) Argument.Nothing on said = refl
  made_so CallKind.Release (Object.Node key) Argument.Nothing on said = refl
  made_so CallKind.Close (Object.Node key) Argument.Nothing on said = refl
  made_so CallKind.DupHandle (Object.Buffer buffer) (Argument.Strength strength) on said = refl
  made_so CallKind.DropHandle (Object.Buffer buffer) (Argument.Strength strength) on said = refl
  made_so CallKind.GiveHandle (Object.Buffer buffer) (Argument.Gift strength to) on said = refl
  made_so CallKind.TrackNode (Object.Node key) Argument.Nothing on said = refl
  made_so CallKind.TrackLifetime (Object.Node key) (Argument.Most most) on said = refl
  made_so CallKind.TrackWeak (Object.Buffer buffer) Argument.Nothing on said = refl
  made_so _ _ _ on said = absurd (cc)

  -- by the form: behind what the call is made on follow its three words
  first_so : (says : ArgumentForm) (on : Target) (new : Wanted) (last : List ℕ) (words : List (List ℕ)) →
      words_reason known last (wanted_by says on new) words ≡ None → ObjectRead on words (three says new)
  first_so ArgumentForm.Nothing on new last words e = object_so on new Wanted.End Wanted.End last words e
  first_so ArgumentForm.Client on new last words e = object_so on Wanted.Client new Wanted.End last words e
  first_so ArgumentForm.Children on new last words e = object_so on Wanted.Children new Wanted.End last words e
  first_so ArgumentForm.Constraints on new last words e =
      object_so on Wanted.Camping Wanted.AtLeast Wanted.Size last words e
  first_so ArgumentForm.Most on new last words e = object_so on Wanted.Number new Wanted.End last words e
  first_so ArgumentForm.Strength on new last words e = object_so on Wanted.Strength new Wanted.End last words e
  first_so ArgumentForm.Gift on new last words e = object_so on Wanted.Strength Wanted.Client new last words e

  -- the kinds whose argument may be left out, or has three words, bring nothing: their rows say so
  ends_so : (kind : CallKind) → Ends (row_of kind).says (new_wanted (row_of kind).brings)
  ends_so CallKind.SetWeakOk = refl
  ends_so CallKind.SetConstraints = refl
  ends_so _ = tt

  -- what is asked by good words, and that a client may ask it
  pub record RequestRead (kind : CallKind) (words : List (List ℕ)) : Type 0 where
    pub request : Request Label BufferLabel
    pub read : request_of kind words ≡ Some request
    pub acts : (client : ℕ) → is_some (ask_by names client request) ≡ true

  -- good words behind a verb ask for something: object, argument and label are read one after another
  pub request_so : (kind : CallKind) (last : List ℕ) (words : List (List ℕ)) →
      words_reason known last (wanted_of_kind kind) words ≡ None → RequestRead kind words
  request_so kind last words e =
      let row = row_of kind in
      let o = first_so row.says row.on (new_wanted row.brings) last words e in
      let a = argument_so row.says (new_wanted row.brings) o.last o.rest (ends_so kind) o.left in
      let b = binds_so row.brings a.last a.rest a.left in
      let call = there (call_made kind o.key a.given) (made_so kind o.key a.given o.fits a.fits) in
      let request : Request Label BufferLabel = record { kind = kind; object = o.object; argument = a.argument; binds = b.binds } in
      let named : call_named names request ≡ Some call.0 =
      and_then_is _ (object_named names o.object) o.key o.named ∙ and_then_is _ (argument_named names a.argument) a.given a.named
      ∙ call.1 in
      record {
        request = request;
        read = and_then_is _ (object_read row.on words) (o.object, o.rest) o.read
            ∙ and_then_is _ (argument_read row.says o.rest) (a.argument, a.rest) a.read
            ∙ and_then_is _ (binds_read row.brings a.rest) (b.binds, []) b.read;
        acts = λ client. ap is_some (and_then_is (λ c. act_binding names row.brings client c b.binds)
            (call_named names request) call.0 named)
            ∙ b.acts client call.0;
      }
