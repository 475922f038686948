-- Texts and lists of the elements of a list, one more at a time.
use Rattle.std.proofs.Common.{◌≡◌, ◌∙◌, ap, sym, ℕ, ◌+◌, ◌<◌, List, [], ◌∷◌, ◌++◌, get_or, length, map, take}
use Rattle.std.specs.List.{fold}
use Rattle.std.proofs.lemmas.List.{map-append, take_more}
use Rattle.std.proofs.lemmas.List.Sums.{fold-append}
pub use Rattle.event_texts.proofs.Loops.{one-more}

-- what is made of one more comes last
pub one-mapped : {A B : Type 0} (f : A → B) (xs : List A) (i : ℕ) (x : A) (y : B) (old new : List B) → i < length xs → get_or xs i x ≡ x →
    old ≡ map f (take i xs) → y ≡ f x → new ≡ old ++ y ∷ [] → new ≡ map f (take (i + 1) xs)
one-mapped f xs i x y old new within is before made put =
    let more : map f (take (i + 1) xs) ≡ map f (take i xs) ++ f x ∷ [] =
    ap (map f) (take_more xs i x within ∙ ap (λ z. take i xs ++ z ∷ []) is) ∙ map-append f (take i xs) (x ∷ []) in
    put ∙ ((λ k. before k ++ made k ∷ []) ∙ sym more)

-- one more is taken in last
pub one-folded : {A B : Type 0} (f : B → A → B) (a : B) (xs : List A) (i : ℕ) (x : A) (old new : B) → i < length xs → get_or xs i x ≡ x →
    old ≡ fold f a (take i xs) → new ≡ f old x → new ≡ fold f a (take (i + 1) xs)
one-folded f a xs i x old new within is before put =
    put
    ∙ (ap (λ b. f b x) before
    ∙ sym (ap (fold f a) (take_more xs i x within ∙ ap (λ z. take i xs ++ z ∷ []) is) ∙ fold-append f a (take i xs) (x ∷ [])))
