-- Writing words over places, one after the other.
use Rattle.sysmem.proofs.Common.{arith, get_or, length, take, ◌<◌, ◌∙◌}
use Rattle.std.proofs.Common.{◌≡◌, ℕ, zero, suc, ◌+◌, List, [], ◌∷◌, ◌++◌, drop, set, refl, ap}

-- the next word, written over its place, makes the part that is written one word longer
step : {A : Type 0} (words places : List A) (i : ℕ) (z : A) → i < length words → i < length places
    → set (take i words ++ drop i places) i (get_or words i z) ≡ take (suc i) words ++ drop (suc i) places
step [] places i z p q = absurd (omega (arith, p))
step (w ∷ words) [] i z p q = absurd (omega (arith, q))
step (w ∷ words) (x ∷ places) zero z p q = refl
step (w ∷ words) (x ∷ places) (suc i) z p q = ap (λ l. w ∷ l) (step words places i z (omega (arith, p)) (omega (arith, q)))

-- one more word is written
pub write_more : {A : Type 0} (words places now : List A) (i : ℕ) (word z : A) → i < length words → i < length places
    → word ≡ get_or words i z → now ≡ take i words ++ drop i places → set now i word ≡ take (i + 1) words ++ drop (i + 1) places
write_more words places now i word z p q is was =
    let on : suc i ≡ i + 1 = omega arith in
    ap (λ l. set l i word) was ∙ ap (λ w. set (take i words ++ drop i places) i w) is ∙ step words places i z p q
    ∙ ap (λ n. take n words ++ drop n places) on
