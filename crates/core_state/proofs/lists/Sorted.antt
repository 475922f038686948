-- What is sorted, mapped.
use Rattle.core_state.proofs.Common.{Bool, List, [], ap, cond, false, insert_by, map, nat_lt, refl, sorted_by, true, ℕ, ◌∙◌, ◌∷◌, ◌≡◌}

-- one that is made of another is put into the place of that
insert_by-map : {A B : Type 0} (number : B → ℕ) (f : A → B) (x : A) (xs : List A) →
    insert_by number (f x) (map f xs) ≡ map f (insert_by (λ y. number (f y)) x xs)
insert_by-map number f x [] = refl
insert_by-map number f x (y ∷ ys) =
    elim (nat_lt (number (f y)) (number (f x))) as (λ (b : Bool).
    cond b (f y ∷ insert_by number (f x) (map f ys)) (f x ∷ f y ∷ map f ys)
    ≡ map f (cond b (y ∷ insert_by (λ z. number (f z)) x ys) (x ∷ y ∷ ys))) [
      | true ↦ ap (λ (l : List _). f y ∷ l) (insert_by-map number f x ys)
      | false ↦ refl
    ]

-- a map of sorted elements is sorted by what they were sorted by
pub sorted_by-map : {A B : Type 0} (number : B → ℕ) (f : A → B) (xs : List A) →
    sorted_by number (map f xs) ≡ map f (sorted_by (λ y. number (f y)) xs)
sorted_by-map number f [] = refl
sorted_by-map number f (x ∷ xs) =
    ap (insert_by number (f x)) (sorted_by-map number f xs) ∙ insert_by-map number f x (sorted_by (λ y. number (f y)) xs)
