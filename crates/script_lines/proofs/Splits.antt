-- The first part of a list that is split.
use Rattle.std.proofs.Common.{◌≡◌, ℕ, ◌+◌, ◌-◌, ◌<◌, Bool, true, false, cond, nat_lt, List}
use Rattle.std.proofs.Common.{[], ◌∷◌, length, take, drop, Some, None, refl, ap, arith, not}
use Rattle.std.specs.List.{slice_split, position, position_or_len, onto_first}
use Rattle.std.proofs.lemmas.List.{take_rest}
use Rattle.std.proofs.lemmas.List.Splits.{slice_split_first}
use Rattle.std.proofs.lemmas.Bool.Decides.{nat_tests}

-- a number that is found is the one that was looked for
pub found_is : (t : Bool) (at i : ℕ) → cond t (Some at) None ≡ Some i → (t ≡ true) × (at ≡ i)
found_is true at i e = (refl, cc)
found_is false at i e = absurd (cc)

-- no number is found where the test fails
pub none_is : (t : Bool) (at : ℕ) → cond t (Some at) None ≡ None → t ≡ false
none_is true at e = absurd (cc)
none_is false at e = refl

-- up to the first element that passes, and from behind it
pub split_at_first : (p : ℕ → Bool) (xs : List ℕ) (i : ℕ) → position p xs ≡ Some i →
    slice_split p xs ≡ take i xs ∷ slice_split p (take (length xs - (i + 1)) (drop (i + 1) xs))
split_at_first p xs i e =
    let both = found_is (nat_lt (position_or_len p xs) (length xs)) (position_or_len p xs) i e in
    let within : position_or_len p xs < length xs = grind (arith, nat_tests, both.0) in
    let first : slice_split p xs ≡ take i xs ∷ slice_split p (drop (i + 1) xs) =
    rw (← both.1) (slice_split_first p xs 0 within) in
    rw (take_rest xs (i + 1)) first

-- one more element, of which this is the test
nowhere : (p : ℕ → Bool) (x : ℕ) (xs : List ℕ) (t : Bool) →
    nat_lt (cond (not t) (1 + position_or_len p xs) 0) (length (x ∷ xs)) ≡ false →
    (nat_lt (position_or_len p xs) (length xs) ≡ false → slice_split p xs ≡ xs ∷ []) →
    cond t ([] ∷ slice_split p xs) (onto_first x (slice_split p xs)) ≡ (x ∷ xs) ∷ []
nowhere p x xs true e others = absurd (grind (arith, nat_tests))
nowhere p x xs false e others =
    let beyond : nat_lt (position_or_len p xs) (length xs) ≡ false = grind (arith, nat_tests) in
    ap (onto_first x) (others beyond)

-- one part, where no element passes
split_nowhere : (p : ℕ → Bool) (xs : List ℕ) → nat_lt (position_or_len p xs) (length xs) ≡ false →
    slice_split p xs ≡ xs ∷ []
split_nowhere p [] e = refl
split_nowhere p (x ∷ xs) e = nowhere p x xs (p x) e (split_nowhere p xs)

-- a list stays one part where a search finds no element that passes
pub split_none : (p : ℕ → Bool) (xs : List ℕ) → position p xs ≡ None → slice_split p xs ≡ xs ∷ []
split_none p xs e = split_nowhere p xs (none_is (nat_lt (position_or_len p xs) (length xs)) (position_or_len p xs) e)
