-- The clients that joined, and those that are there.
use Rattle.event_laws.proofs.Common.{All-cons, All-nil, Bool, Entry, List, Marks, [], ap, append_assoc, false, get_or, get_or_read}
use Rattle.event_laws.proofs.Common.{is_among, joined, joined_from, length, makes_client, refl, sym, true, ℕ, ◌++◌, ◌+◌, ◌<◌, ◌||◌, ◌∙◌}
use Rattle.event_laws.proofs.Common.{◌∷◌, ◌≡◌}
use Rattle.std.proofs.lemmas.List.Elements.{All-append}
use Rattle.event_laws.specs.Members.{AreAmong}

-- ---- marks

-- what is marked already, with what is still to be marked, are those that are there
pub record IsMarked (present : List Bool) (rest ids : List ℕ) : Type 0 where
  pub each : (k : ℕ) → k < length present → (get_or present k false || is_among rest (k + 1)) ≡ is_among ids (k + 1)

-- ---- the clients of a record, as far as it was read

-- the clients of the first events, and those of the rest, are all
pub record IsRead (ids : List ℕ) (event : ℕ) (rest history : List Entry) : Type 0 where
  pub before : List ℕ
  pub all : joined history ≡ before ++ joined_from event rest
  pub present : AreAmong ids before

-- an event that made no client
pub read_other : (ids : List ℕ) (event : ℕ) (entry : Entry) (rest later history : List Entry) → rest ≡ entry ∷ later →
    makes_client entry ≡ false → IsRead ids event rest history →
    IsRead ids (event + 1) later history
read_other ids event entry rest later history on other so = record {
  before = so.before;
  all = so.all ∙ ap (λ l. so.before ++ l) (ap (joined_from event) on ∙ rw other refl);
  present = so.present;
}

-- an event that made a client which is there
pub read_join : (ids : List ℕ) (event : ℕ) (entry : Entry) (rest later history : List Entry) →
    rest ≡ entry ∷ later → makes_client entry ≡ true →
    is_among ids event ≡ true → IsRead ids event rest history →
    IsRead ids (event + 1) later history
read_join ids event entry rest later history on join there so = record {
  before = so.before ++ event ∷ [];
  all = so.all ∙ (ap (λ l. so.before ++ l) (ap (joined_from event) on ∙ joins)
      ∙ sym (append_assoc so.before (event ∷ []) (joined_from (event + 1) later)));
  present = All-append (λ c. is_among ids c ≡ true) so.before (event ∷ []) so.present (All-cons (λ c. is_among ids c ≡ true) event [] there
      (All-nil (λ c. is_among ids c ≡ true)));
}
  where
    -- since the first entry makes a client
    joins : joined_from event (entry ∷ later) ≡ event ∷ joined_from (event + 1) later
    joins = rw join refl

-- an event, where the client that it made is there
pub read_next : (ids : List ℕ) (event : ℕ) (entry : Entry) (rest later history : List Entry) → rest ≡ entry ∷ later →
    (makes_client entry ≡ true → is_among ids event ≡ true) → IsRead ids event rest history →
    IsRead ids (event + 1) later history
read_next ids event entry rest later history on there so = either (makes_client entry) refl
  where
    -- by cases on whether the entry makes a client
    either : (b : Bool) → makes_client entry ≡ b → IsRead ids (event + 1) later history
    either true join = read_join ids event entry rest later history on join (there join) so
    either false other = read_other ids event entry rest later history on other so

-- a client that is marked is there
pub marked_there : (present : List Bool) (ids : List ℕ) (k : ℕ) (mark : Bool) → Marks present ids → k < length present →
    mark ≡ get_or present k mark → mark ≡ true → is_among ids (k + 1) ≡ true
marked_there present ids k mark marks below read so = sym (marks.each k below) ∙ (sym (get_or_read present k mark below read false) ∙ so)
