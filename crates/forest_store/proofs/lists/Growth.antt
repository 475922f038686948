-- A list that is made of another, element by element, grows by what is made of the next.
use Rattle.forest_store.proofs.Common.{List, ◌++◌, ◌+◌, ◌≡◌, ap}
use Rattle.forest_store.proofs.Common.{length, take, ℕ, ◌∙◌, take_all, ◌≤◌}

module _ {A B : Type 0} (F : List A → List B) where
  -- the first elements up to the end are all
  pub made_all : (xs : List A) (i : ℕ) → length xs ≤ i → (made : List B) → made ≡ F (take i xs) → made ≡ F xs
  made_all xs i l made m = m ∙ ap F (take_all i xs l)

  -- so they are behind others
  pub behind_all : (xs : List A) (i : ℕ) → length xs ≤ i → (others made : List B) → made ≡ others ++ F (take i xs) → made ≡ others ++ F xs
  behind_all xs i l others made m = m ∙ ap (λ (ys : List A). others ++ F ys) (take_all i xs l)
