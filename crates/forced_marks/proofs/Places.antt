-- Buffers that are placed one after another, each beside all that are held.
use Rattle.forced_marks.proofs.Common.{Bool, Interval, List, None, Option, Some, [], ap, arith, false, least_start, list_any, places}
use Rattle.forced_marks.proofs.Common.{refl, suc, true, ℕ, ◌++◌, ◌+◌, ◌-◌, ◌<◌, ◌||◌, ◌∙◌, ◌∷◌, ◌≡◌}
use Rattle.std.specs.Option.{option_map}
use Rattle.sm_names.proofs.PlaceLaws.{places_same}

-- this many pages from a start on
abbrev at_pages : ℕ → ℕ → Interval
at_pages pages start = record { start = start; pages = pages }

-- the last one is the first one as well
any_last : (test : Interval → Bool) (new : Interval) (held : List Interval) →
    list_any test (new ∷ held) ≡ list_any test (held ++ new ∷ [])
any_last test new [] = refl
any_last test new (h ∷ hs) = turned (test new) (test h) (list_any test hs) ∙ ap (λ (b : Bool). test h || b) (any_last test new hs)
  where
    -- by cases on all three tests
    turned : (a b c : Bool) → (a || (b || c)) ≡ (b || (a || c))
    turned true true c = refl
    turned true false c = refl
    turned false true c = refl
    turned false false c = refl

-- one start more, in front of the rest or behind those so far
joined : (starts : List ℕ) (start : ℕ) (o : Option (List ℕ)) →
    option_map (λ ss. starts ++ ss) (option_map (λ ss. start ∷ ss) o) ≡ option_map (λ ss. (starts ++ start ∷ []) ++ ss) o
joined starts start None = refl
joined starts start (Some ss) = ap Some (along starts)
  where
    -- by induction on the starts
    along : (xs : List ℕ) → xs ++ start ∷ ss ≡ (xs ++ start ∷ []) ++ ss
    along [] = refl
    along (x ∷ xs) = ap (λ (l : List ℕ). x ∷ l) (along xs)

-- one buffer more has its place
pub place_next : (pool pages count k : ℕ) (held : List Interval) (start : ℕ) (starts : List ℕ) → k < count →
    least_start pool pages held ≡ Some start →
    option_map (λ ss. starts ++ ss) (places pool pages (count - k) held)
    ≡ option_map (λ ss. (starts ++ start ∷ []) ++ ss) (places pool pages (count - (k + 1)) (held ++ at_pages pages start ∷ []))
place_next pool pages count k held start starts more e =
    let left : count - k ≡ suc (count - (k + 1)) = omega arith in
    let first : places pool pages (suc (count - (k + 1))) held
    ≡ option_map (λ ss. start ∷ ss) (places pool pages (count - (k + 1)) (at_pages pages start ∷ held)) = rw e refl in
    ap (λ n. option_map (λ ss. starts ++ ss) (places pool pages n held)) left
    ∙ (ap (option_map (λ ss. starts ++ ss)) first
    ∙ (joined starts start (places pool pages (count - (k + 1)) (at_pages pages start ∷ held))
    ∙ ap (option_map (λ ss. (starts ++ start ∷ []) ++ ss))
    (places_same pool pages (count - (k + 1)) (at_pages pages start ∷ held) (held ++ at_pages pages start ∷ [])
    (λ test. any_last test (at_pages pages start) held))))

-- or none has
pub place_none : (pool pages count k : ℕ) (held : List Interval) (starts : List ℕ) → k < count →
    least_start pool pages held ≡ None → option_map (λ ss. starts ++ ss) (places pool pages (count - k) held) ≡ None
place_none pool pages count k held starts more e =
    let left : count - k ≡ suc (count - (k + 1)) = omega arith in
    ap (λ n. option_map (λ ss. starts ++ ss) (places pool pages n held)) left ∙ rw e refl
