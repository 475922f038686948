-- A list and one more element behind it.
use Rattle.std.proofs.Common.{◌≡◌, ℕ, List, [], ◌∷◌, ◌++◌, refl, ap, ◌∙◌, sym, append_assoc, append-nil}

-- something stands before nothing
nil-last : (xs : List ℕ) (b : ℕ) → [] ≡ xs ++ b ∷ [] → ⊥
nil-last [] b e = cc
nil-last (x ∷ xs) b e = cc

-- the same fronts, and the same last elements
pub record AreSame (xs ys : List ℕ) (a b : ℕ) : Type 0 where
  pub fronts : xs ≡ ys
  pub lasts : a ≡ b

-- lists that are equal with one element behind each have equal fronts and equal last elements
pub last-same : (xs ys : List ℕ) (a b : ℕ) → xs ++ a ∷ [] ≡ ys ++ b ∷ [] → AreSame xs ys a b
last-same [] [] a b e = record { fronts = refl; lasts = cc }
last-same [] (y ∷ ys) a b e = let behind : [] ≡ ys ++ b ∷ [] = cc in absurd (nil-last ys b behind)
last-same (x ∷ xs) [] a b e = let behind : xs ++ a ∷ [] ≡ [] = cc in absurd (nil-last xs a (sym behind))
last-same (x ∷ xs) (y ∷ ys) a b e =
    let behind : xs ++ a ∷ [] ≡ ys ++ b ∷ [] = cc in
    let first : x ≡ y = cc in
    let same = last-same xs ys a b behind in
    record { fronts = ap (λ z. z ∷ xs) first ∙ ap (λ zs. y ∷ zs) same.fronts; lasts = same.lasts }

-- eight parts, one after another
pub parts-flat : (a b c d e f g h : List ℕ) →
    a ++ (b ++ (c ++ (d ++ (e ++ (f ++ (g ++ (h ++ [])))))))
    ≡ a ++ b ++ c ++ d ++ e ++ f ++ g ++ h
parts-flat a b c d e f g h = simp (append_assoc, append-nil)
