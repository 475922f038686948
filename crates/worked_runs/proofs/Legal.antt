-- A history is legal if its replies are those that the definitions compute, one after another.
use Rattle.std.specs.Prelude.{length}
use Rattle.std.specs.Option.{option_map_or}
use Rattle.std.proofs.Common.{ℕ, suc, ◌≡◌, ◌||◌, Bool, true, false, nat_lt, List, [], ◌∷◌, map, ap, refl, arith}
use Rattle.std.proofs.lemmas.Bool.{ltb-true}
use Rattle.sm_names.specs.contracts.messages.ReplyPartialEq.TheImpl as derived
use Rattle.sm_names.specs.declared.messages.Reply.{Reply}
use Rattle.sm_names.specs.Answers.{answer, key_told, new_key}
use Rattle.sm_names.specs.Bounds.{Bound}
use Rattle.sm_names.specs.Legality.{AreAnswers, IsLegal}
use Rattle.sm_names.specs.Marks.{Entry, Timeline}
use Rattle.sm_names.specs.Reading.{readings}
use Rattle.sm_names.specs.Timelines.{after}

-- the reply of each event, by the answer table
abbrev pub replies : ℕ → Bound → Timeline → List Entry → List Reply
replies pool limits marks [] = []
replies pool limits marks (entry ∷ entries) =
    answer limits (readings marks) entry.0 (key_told entry.2) entry.1
    ∷ replies pool limits (after pool marks entry) entries

-- whether an event tells a key that was given before
abbrev pub repeats : ℕ → Timeline → List Entry → Bool
repeats pool marks [] = false
repeats pool marks (entry ∷ entries) =
    option_map_or (readings marks).was_given (new_key entry.2) false || repeats pool (after pool marks entry) entries

-- the first element, if there is one
abbrev first_or : Reply → List Reply → Reply
first_or last [] = last
first_or last (reply ∷ replies) = reply

-- all but the first element
abbrev others : List Reply → List Reply
others [] = []
others (reply ∷ replies) = replies

-- neither of two is true, where one of them would do
neither : (a b : Bool) → a || b ≡ false → (a ≡ false) × (b ≡ false)
neither false b is = (refl, is)
neither true b is = cc

-- equal lists have equal elements
are_answers : (pool : ℕ) (limits : Bound) (marks : Timeline) (entries : List Entry) →
    map (λ entry. entry.2) entries ≡ replies pool limits marks entries → repeats pool marks entries ≡ false →
    AreAnswers pool limits marks entries
are_answers pool limits marks [] told new = tt
are_answers pool limits marks (entry ∷ entries) told new =
    let none = neither (option_map_or (readings marks).was_given (new_key entry.2) false)
    (repeats pool (after pool marks entry) entries) new in (
      record { told = ap (first_or entry.2) told; is_new = none.0 },
      are_answers pool limits (after pool marks entry) entries (ap others told) none.1,
    )

-- the three premises are closed facts, which hold by computing
pub is_legal : (pool : ℕ) (limits : Bound) (history : List Entry) →
    map (λ entry. entry.2) history ≡ replies pool limits [] history → repeats pool [] history ≡ false →
    nat_lt (length history) (suc limits.events) ≡ true → IsLegal pool limits history
is_legal pool limits history told new short = record {
  answers = are_answers pool limits [] history told new;
  within = let less = ltb-true (length history) (suc limits.events) short in omega (arith, less);
}

-- replies that are answers are those that the table computes, one after another
told : (pool : ℕ) (limits : Bound) (marks : Timeline) (entries : List Entry) → AreAnswers pool limits marks entries →
    map (λ entry. entry.2) entries ≡ replies pool limits marks entries
told pool limits marks [] are = refl
told pool limits marks (entry ∷ entries) are =
    λ i. are.0.told i ∷ told pool limits (after pool marks entry) entries are.1 i

-- the last of these replies, or `Done` if there is none
abbrev last_of : List Reply → Reply
last_of [] = Reply.Done
last_of (reply ∷ []) = reply
last_of (reply ∷ replies) = last_of replies

-- whether the last replies of both pass the derived test
abbrev ends_as : List Reply → List Reply → Bool
ends_as told computed = (derived.eq-value).it (last_of told) (last_of computed)

-- the premises are closed facts: the last reply passes the derived test with itself, but not with the one that the table computes
pub is_not_legal : (pool : ℕ) (limits : Bound) (history : List Entry) →
    ends_as (map (λ entry. entry.2) history) (map (λ entry. entry.2) history) ≡ true →
    ends_as (map (λ entry. entry.2) history) (replies pool limits [] history) ≡ false →
    IsLegal pool limits history → ⊥
is_not_legal pool limits history same other legal =
    let is = ap (ends_as (map (λ entry. entry.2) history)) (told pool limits [] history legal.answers) in cc
