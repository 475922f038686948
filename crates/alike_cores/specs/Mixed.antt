-- Lists of the same elements in another order.
use Rattle.std.specs.Prelude.{List, [], ◌∷◌}

-- the second list has the elements of the first, each as often
pub data Mixed {A : Type 0} : List A → List A → Type 0 where
  Nothing : Mixed [] []
  Keeps : (x : A) (xs ys : List A) → Mixed xs ys → Mixed (x ∷ xs) (x ∷ ys)
  Swaps : (x y : A) (xs : List A) → Mixed (x ∷ y ∷ xs) (y ∷ x ∷ xs)
  Mixes : (xs ys zs : List A) → Mixed xs ys → Mixed ys zs → Mixed xs zs
