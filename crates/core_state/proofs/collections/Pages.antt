-- The pages that the forest holds.
use Rattle.core_state.proofs.Common.{List, [], arith, either_way, inl, inr, insert_by, map, nat_lt, refl, sorted_by, sum_by, sum_by-cons}
use Rattle.core_state.proofs.Common.{ℕ, ◌+◌, ◌∷◌, ◌≡◌}

-- a sum is the same with the element in its place
sum-insert : {A : Type 0} (f number : A → ℕ) (x : A) (xs : List A) → sum_by f (insert_by number x xs) ≡ f x + sum_by f xs
sum-insert f number x [] = sum_by-cons f x []
sum-insert f number x (y ∷ ys) =
    elim (either_way (nat_lt (number y) (number x))) [
      | inl later ↦ rw later (omega (arith, sum_by-cons f y (insert_by number x ys), sum-insert f number x ys, sum_by-cons f y ys))
      | inr here ↦ rw here (sum_by-cons f x (y ∷ ys))
    ]

-- a sum is the same in any order
pub sum-sorted : {A : Type 0} (f number : A → ℕ) (xs : List A) → sum_by f (sorted_by number xs) ≡ sum_by f xs
sum-sorted f number [] = refl
sum-sorted f number (x ∷ xs) = omega (arith, sum-insert f number x (sorted_by number xs), sum-sorted f number xs, sum_by-cons f x xs)

-- a sum over what a map gives
pub sum-map : {A B : Type 0} (f : B → ℕ) (g : A → B) (xs : List A) → sum_by f (map g xs) ≡ sum_by (λ x. f (g x)) xs
sum-map f g [] = refl
sum-map f g (x ∷ xs) = omega (arith, sum_by-cons f (g x) (map g xs), sum-map f g xs, sum_by-cons (λ x. f (g x)) x xs)
