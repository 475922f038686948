-- The labels of a line of bytes have no end of a line.
use Rattle.std.proofs.Common.{◌≡◌, ℕ, ◌==◌, ◌&&◌, ◌||◌, nat_le, nat_lt, not, if◌then◌else◌, Bool, true}
use Rattle.std.proofs.Common.{false, List, [], ◌∷◌, ◌++◌, length, Option, Some, None, refl, ap, ◌∙◌, arith}
use Rattle.std.proofs.lemmas.Bool.Decides.{nat_tests}
use Rattle.sm_names.specs.declared.call_parts.Product.{Product}
use Rattle.sm_names.specs.declared.call_rows.CallKind.{CallKind}
use Rattle.sm_names.specs.CallRows.{brings_end, is_tracker, kind_named, row_of}
use Rattle.std.proofs.lemmas.List.Folds.{list_all-append}
use Rattle.std.specs.Prelude.{IfSome, codes}
use Rattle.std.specs.List.{list_all}
use Rattle.std.specs.Option.{option_map, option_and_then}
use Rattle.std.specs.Str.{bytes_eq}
use Rattle.script_lines.specs.declared.TheConstants.{MOST_LINE_BYTES}
use Rattle.script_lines.specs.declared.buffer_label.BufferLabel.{BufferLabel}
use Rattle.script_lines.specs.declared.label.Label.{Label}
use Rattle.script_lines.specs.declared.line.Line.{Line}
use Rattle.script_lines.specs.declared.line.Request.{Request}
use Rattle.script_lines.specs.Labels.{is_digit, is_label, is_letter, label_of, packed, text_of_label}
use Rattle.script_lines.specs.Lines.{argument_read, ask_of, asked_of, at_end, binds_read, call_read, first_read}
use Rattle.script_lines.specs.Lines.{is_silent, line_of, object_read, poll_of, request_of, said_of, show_of, view_of}
use Rattle.script_lines.specs.Words.{words}
use Rattle.script_lines.proofs.Digits.{spelled-word}

-- the text is within a line
abbrev pub is_inner : List ℕ → Bool
is_inner text = list_all (λ byte. not (byte == 10)) text

-- so is what stands behind it
pub inner-append : (a b : List ℕ) → is_inner a ≡ true → is_inner b ≡ true → is_inner (a ++ b) ≡ true
inner-append a b p q = list_all-append (λ byte. not (byte == 10)) a b ∙ rw p q

-- ---- labels

-- the label is spelled within a line
abbrev pub IsClean : Label → Type 0
IsClean label = is_inner (text_of_label label) ≡ true

-- a letter and a digit end no line
name-inner : (byte : ℕ) → (is_letter byte || is_digit byte) ≡ true → not (byte == 10) ≡ true
name-inner byte test = grind (arith, nat_tests)

-- the first part of a conjunction is true where the conjunction is
pub and-left : (a b : Bool) → (a && b) ≡ true → a ≡ true
and-left true b e = refl
and-left false b e = e

-- the second part of a conjunction is true where the conjunction is
pub and-right : (a b : Bool) → (a && b) ≡ true → b ≡ true
and-right true b e = e
and-right false b e = absurd (cc)

-- a disjunction is true where its first part is
or-left : (a b : Bool) → a ≡ true → (a || b) ≡ true
or-left true b e = refl
or-left false b e = absurd (cc)

-- a word of letters and digits has no end of a line, by induction on its bytes
names-inner : (bytes : List ℕ) → list_all (λ byte. is_letter byte || is_digit byte) bytes ≡ true → is_inner bytes ≡ true
names-inner [] e = refl
names-inner (byte ∷ more) e =
    rw (name-inner byte (and-left (is_letter byte || is_digit byte) (list_all (λ b. is_letter b || is_digit b) more) e))
    (names-inner more (and-right (is_letter byte || is_digit byte) (list_all (λ b. is_letter b || is_digit b) more) e))

-- a label has no end of a line: it consists of a letter, then letters and digits
label-inner : (word : List ℕ) → is_label word ≡ true → is_inner word ≡ true
label-inner [] e = refl
label-inner (first ∷ others) e =
    let others_named : Bool = list_all (λ byte. is_letter byte || is_digit byte) others in
    rw (name-inner first (or-left (is_letter first) (is_digit first)
    (and-left (is_letter first) (nat_le (length others) 15) (and-left (is_letter first && nat_le (length others) 15) others_named e))))
    (names-inner others (and-right (is_letter first && nat_le (length others) 15) others_named e))

-- the label that a word spells
pub label-clean : (word : List ℕ) → IfSome (label_of word) IsClean
label-clean word = by (is_label word) refl
  where
    -- by cases: a label is spelled by its word, which has no end of a line
    by : (t : Bool) → is_label word ≡ t → IfSome (if t then Some (record { code = packed word }) else None) IsClean
    by true is = ap is_inner (spelled-word word is) ∙ label-inner word is
    by false is = tt

-- ---- values that may be there

module _ {A : Type 0} (P : A → Type 0) where
  -- a property of both optional values holds of the one that the test picks
  pub some-if : (t : Bool) (a b : Option A) → IfSome a P → IfSome b P → IfSome (if t then a else b) P
  some-if true a b p q = p
  some-if false a b p q = q

  -- leftover words drop the value, so `at_end` keeps its property
  pub some-end : (rest : List (List ℕ)) (said : Option A) → IfSome said P → IfSome (at_end rest said) P
  some-end [] said p = p
  some-end (next ∷ rest) said p = tt

  -- a property of each result of the function holds of the chained result
  pub some-then : {B : Type 0} (f : B → Option A) (o : Option B) → ((b : B) → IfSome (f b) P) → IfSome (option_and_then f o) P
  some-then f None p = tt
  some-then f (Some b) p = p b

  -- a property of each image holds of the mapped optional value
  pub some-map : {B : Type 0} (f : B → A) (o : Option B) → ((b : B) → P (f b)) → IfSome (option_map f o) P
  some-map f None p = tt
  some-map f (Some b) p = p b

  -- a chained result has the property if the function yields it from inputs with the first property
  pub some-then-of : {B : Type 0} (Q : B → Type 0) (f : B → Option A) (o : Option B) → IfSome o Q → ((b : B) → Q b → IfSome (f b) P) →
      IfSome (option_and_then f o) P
  some-then-of Q f None q p = tt
  some-then-of Q f (Some b) q p = p b q

  -- a mapped value has the property if the function yields it from inputs with the first property
  pub some-map-of : {B : Type 0} (Q : B → Type 0) (f : B → A) (o : Option B) → IfSome o Q → ((b : B) → Q b → P (f b)) →
      IfSome (option_map f o) P
  some-map-of Q f None q p = tt
  some-map-of Q f (Some b) q p = p b q

-- ---- lines

-- the labels that the line binds
abbrev pub IsCleanLine : Line → Type 0
IsCleanLine (Line.Join client) = IsClean client
IsCleanLine (Line.Ask client request) = IfSome request.binds IsClean
IsCleanLine _ = Unit {0}

-- what is read of a first word, where each word is read so
read-clean : {A : Type 0} (P : A → Type 0) (read : List ℕ → Option A) → ((word : List ℕ) → IfSome (read word) P) →
    (words : List (List ℕ)) → IfSome (first_read read words) (λ (s : A × List (List ℕ)). P s.0)
read-clean P read each [] = tt
read-clean {A = A} P read each (word ∷ rest) =
    some-map-of (λ (s : A × List (List ℕ)). P s.0) P (λ said. (said, rest)) (read word) (each word) (λ said clean. clean)

-- a label that is to be bound
abbrev pub IsCleanBinds : Option Label → Type 0
IsCleanBinds binds = IfSome binds IsClean

-- a label that is read to be bound has no end of a line, since a word spells it
binds-clean : (product : Product) (words : List (List ℕ)) →
    IfSome (binds_read product words) (λ (b : Option Label × List (List ℕ)). IsCleanBinds b.0)
binds-clean product words =
    some-if (λ (b : Option Label × List (List ℕ)). IsCleanBinds b.0) (brings_end product || is_tracker product) _ (Some (None, words))
    (read-clean IsCleanBinds (λ word. option_map Some (label_of word))
    (λ word. some-map-of IsCleanBinds IsClean Some (label_of word) (label-clean word) (λ label clean. clean)) words)
    tt

-- what is asked
abbrev pub IsCleanRequest : Request Label BufferLabel → Type 0
IsCleanRequest r = IsCleanBinds r.binds

-- a request that is read has a clean label, if any: `binds_read` reads it behind the other parts
request-clean : (kind : CallKind) (words : List (List ℕ)) → IfSome (request_of kind words) IsCleanRequest
request-clean kind words =
    some-then IsCleanRequest _ (object_read (row_of kind).on words) (λ o.
    some-then IsCleanRequest _ (argument_read (row_of kind).says o.1) (λ a.
    some-then-of IsCleanRequest (λ (b : Option Label × List (List ℕ)). IsCleanBinds b.0)
    (λ (b : Option Label × List (List ℕ)). at_end b.1 (Some (record { kind = kind; object = o.0; argument = a.0; binds = b.0 })))
    (binds_read (row_of kind).brings a.1) (binds-clean (row_of kind).brings a.1)
    (λ b clean. some-end IsCleanRequest b.1 (Some (record { kind = kind; object = o.0; argument = a.0; binds = b.0 })) clean)))

-- a line that asks for a call is clean, since it binds only the label of its request
ask-clean : (client : Label) (word : List ℕ) (rest : List (List ℕ)) → IfSome (ask_of client word rest) IsCleanLine
ask-clean client word rest =
    some-map-of IsCleanLine IsCleanRequest (λ request. Line.Ask client request)
    (option_and_then (λ kind. request_of kind rest) (kind_named word))
    (some-then IsCleanRequest (λ kind. request_of kind rest) (kind_named word) (λ kind. request-clean kind rest))
    (λ request clean. clean)

-- a line that polls a tracker is clean, since it binds no label
poll-clean : (client : Label) (rest : List (List ℕ)) → IfSome (poll_of client rest) IsCleanLine
poll-clean client [] = tt
poll-clean client (word ∷ rest) =
    some-end IsCleanLine rest _ (some-map IsCleanLine (λ tracker. Line.Poll client tracker) (label_of word) (λ tracker. tt))

-- a client's join binds the client's own clean label; its polls and its other calls are clean too
call-clean : (client : Label) (word : List ℕ) (rest : List (List ℕ)) → IsClean client → IfSome (call_read client word rest) IsCleanLine
call-clean client word rest clean =
    some-if IsCleanLine (bytes_eq word (codes "join")) _ _ (some-end IsCleanLine rest (Some (Line.Join client)) clean)
    (some-if IsCleanLine (bytes_eq word (codes "poll")) _ _ (poll-clean client rest) (ask-clean client word rest))

-- a line is clean whatever stands behind the label of its client, if that label is clean
asked-clean : (client : Label) (rest : List (List ℕ)) → IsClean client → IfSome (asked_of client rest) IsCleanLine
asked-clean client [] clean = tt
asked-clean client (word ∷ rest) clean = call-clean client word rest clean

-- a line that shows a view is clean, since it binds no label
show-clean : (rest : List (List ℕ)) → IfSome (show_of rest) IsCleanLine
show-clean [] = tt
show-clean (what ∷ rest) =
    some-end IsCleanLine rest _ (some-map IsCleanLine (λ view. Line.Show view) (view_of what) (λ view. tt))

-- words spell a clean line, whether the first of them is `show` or the label of a client
said-clean : (words : List (List ℕ)) → IfSome (said_of words) IsCleanLine
said-clean [] = tt
said-clean (first ∷ rest) =
    some-if IsCleanLine (bytes_eq first (codes "show")) _ _ (show-clean rest)
    (some-then-of IsCleanLine IsClean (λ client. asked_of client rest) (label_of first) (label-clean first)
    (λ client clean. asked-clean client rest clean))

-- the labels of a line are spelled within a line
pub line-clean : (bytes : List ℕ) → IfSome (line_of bytes) IsCleanLine
line-clean bytes =
    some-if IsCleanLine (nat_lt MOST_LINE_BYTES (length bytes)) None _ tt
    (some-if IsCleanLine (is_silent bytes) (Some Line.Nothing) _ tt (said-clean (words bytes)))
