-- Texts of the elements of a list, one more at a time.
use Rattle.std.proofs.Common.{◌≡◌, ◌∙◌, ap, sym, ℕ, ◌+◌, ◌<◌, List, [], ◌∷◌, ◌++◌, append_assoc, append-nil, get_or, length, take}
use Rattle.std.specs.List.{flat_map}
use Rattle.std.proofs.lemmas.Grind.{flat_map-append}
use Rattle.std.proofs.lemmas.List.{take_more}

-- the text of one more comes last, where the list is read with a default
pub one-read : {A : Type 0} (f : A → List ℕ) (xs : List A) (i : ℕ) (d : A) (front old new : List ℕ) → i < length xs →
    old ≡ front ++ flat_map f (take i xs) → new ≡ old ++ f (get_or xs i d) → new ≡ front ++ flat_map f (take (i + 1) xs)
one-read f xs i d front old new within before put =
    let x = get_or xs i d in
    let more : flat_map f (take (i + 1) xs) ≡ flat_map f (take i xs) ++ f x =
    ap (flat_map f) (take_more xs i d within)
    ∙ (flat_map-append f (take i xs) (x ∷ []) ∙ ap (λ (t : List ℕ). flat_map f (take i xs) ++ t) (append-nil (f x))) in
    put
    ∙ (ap (λ (t : List ℕ). t ++ f x) before
    ∙ (append_assoc front (flat_map f (take i xs)) (f x) ∙ ap (λ (t : List ℕ). front ++ t) (sym more)))

-- the text of one more comes last
pub one-more : {A : Type 0} (f : A → List ℕ) (xs : List A) (i : ℕ) (x : A) (front old new : List ℕ) → i < length xs → get_or xs i x ≡ x →
    old ≡ front ++ flat_map f (take i xs) → new ≡ old ++ f x → new ≡ front ++ flat_map f (take (i + 1) xs)
one-more f xs i x front old new within is before put =
    one-read f xs i x front old new within before (put ∙ ap (λ y. old ++ f y) (sym is))
