-- Lists of the same elements in another order.
use Rattle.core_state.proofs.Common.{Bool, In, List, [], ap, arith, cond, either_way, false, filter, inl, inr, length, map, refl, sum_by}
use Rattle.core_state.proofs.Common.{sum_by-cons, true, ℕ, ◌++◌, ◌+◌, ◌∷◌, ◌≡◌, ◌⊎◌}

-- the second list is the first with the element put in somewhere
pub data Adds {A : Type 0} (x : A) : List A → List A → Type 0 where
  First : (xs : List A) → Adds x xs (x ∷ xs)
  Later : (y : A) (xs ys : List A) → Adds x xs ys → Adds x (y ∷ xs) (y ∷ ys)

-- the lists have the same elements, each as often
pub data Mixed {A : Type 0} : List A → List A → Type 0 where
  Nothing : Mixed [] []
  Puts : (x : A) (xs ys more : List A) → Mixed xs ys → Adds x ys more → Mixed (x ∷ xs) more

-- ---- one more element

-- it may be put in last
pub adds_last : {A : Type 0} (x : A) (xs : List A) → Adds x xs (xs ++ x ∷ [])
adds_last x [] = First []
adds_last x (y ∷ ys) = Later y ys (ys ++ x ∷ []) (adds_last x ys)

-- it is put into the first of two parts
pub adds_before : {A : Type 0} (x : A) (xs ys more : List A) → Adds x xs ys → Adds x (xs ++ more) (ys ++ more)
adds_before x _ _ more (First xs) = First (xs ++ more)
adds_before x _ _ more (Later y xs ys a) = Later y (xs ++ more) (ys ++ more) (adds_before x xs ys more a)

-- or into the second
pub adds_behind : {A : Type 0} (x : A) (xs ys front : List A) → Adds x xs ys → Adds x (front ++ xs) (front ++ ys)
adds_behind x xs ys [] a = a
adds_behind x xs ys (z ∷ zs) a = Later z (zs ++ xs) (zs ++ ys) (adds_behind x xs ys zs a)

-- a map puts in what it makes of it
pub adds_map : {A B : Type 0} (f : A → B) (x : A) (xs ys : List A) → Adds x xs ys → Adds (f x) (map f xs) (map f ys)
adds_map f x _ _ (First xs) = First (map f xs)
adds_map f x _ _ (Later y xs ys a) = Later (f y) (map f xs) (map f ys) (adds_map f x xs ys a)

-- a filter that it passes puts it in
pub adds_filter : {A : Type 0} (p : A → Bool) (x : A) (xs ys : List A) → p x ≡ true → Adds x xs ys → Adds x (filter p xs) (filter p ys)
adds_filter p x _ _ e (First xs) = rw e (First (filter p xs))
adds_filter p x _ _ e (Later y xs ys a) =
    elim (p y) as (λ (b : Bool). Adds x (cond b (y ∷ filter p xs) (filter p xs)) (cond b (y ∷ filter p ys) (filter p ys))) [
      | true ↦ Later y (filter p xs) (filter p ys) (adds_filter p x xs ys e a)
      | false ↦ adds_filter p x xs ys e a
    ]

-- any other leaves it out
pub filter-adds : {A : Type 0} (p : A → Bool) (x : A) (xs ys : List A) → p x ≡ false → Adds x xs ys → filter p ys ≡ filter p xs
filter-adds p x _ _ e (First xs) = rw e refl
filter-adds p x _ _ e (Later y xs ys a) = ap (λ (l : List _). cond (p y) (y ∷ l) l) (filter-adds p x xs ys e a)

-- an element of the longer list is the new one or an old one
pub In-adds : {A : Type 0} (x : A) (xs ys : List A) (z : A) → Adds x xs ys → In z ys → (z ≡ x) ⊎ In z xs
In-adds x _ _ z (First xs) on = on
In-adds x _ _ z (Later y xs ys a) (inl is) = inr (inl is)
In-adds x _ _ z (Later y xs ys a) (inr on) = elim (In-adds x xs ys z a on) [ inl is ↦ inl is | inr there ↦ inr (inr there) ]

-- the new one is there, and so are the old ones
pub In-added : {A : Type 0} (x : A) (xs ys : List A) (z : A) → Adds x xs ys → (z ≡ x) ⊎ In z xs → In z ys
In-added x _ _ z (First xs) on = on
In-added x _ _ z (Later y xs ys a) (inl is) = inr (In-added x xs ys z a (inl is))
In-added x _ _ z (Later y xs ys a) (inr (inl is)) = inl is
In-added x _ _ z (Later y xs ys a) (inr (inr on)) = inr (In-added x xs ys z a (inr on))

-- ---- all elements

-- maps keep it so
pub mixed_map : {A B : Type 0} (f : A → B) (xs ys : List A) → Mixed xs ys → Mixed (map f xs) (map f ys)
mixed_map f _ _ Nothing = Nothing
mixed_map f _ _ (Puts x xs ys more m a) = Puts (f x) (map f xs) (map f ys) (map f more) (mixed_map f xs ys m) (adds_map f x ys more a)

-- and so do filters
pub mixed_filter : {A : Type 0} (p : A → Bool) (xs ys : List A) → Mixed xs ys → Mixed (filter p xs) (filter p ys)
mixed_filter p _ _ Nothing = Nothing
mixed_filter p _ _ (Puts x xs ys more m a) =
    elim (either_way (p x)) [
      | inl e ↦ rw e (Puts x (filter p xs) (filter p ys) (filter p more) (mixed_filter p xs ys m) (adds_filter p x ys more e a))
      | inr e ↦ rw (e, filter-adds p x ys more e a) (mixed_filter p xs ys m)
    ]

-- an element of the one is one of the other
pub In-mixed : {A : Type 0} (xs ys : List A) (z : A) → Mixed xs ys → In z ys → In z xs
In-mixed _ _ z Nothing on = on
In-mixed _ _ z (Puts x xs ys more m a) on = elim (In-adds x ys more z a on) [ inl is ↦ inl is | inr there ↦ inr (In-mixed xs ys z m there) ]

-- and the other way round
pub In-mixed_back : {A : Type 0} (xs ys : List A) (z : A) → Mixed xs ys → In z xs → In z ys
In-mixed_back _ _ z Nothing on = on
In-mixed_back _ _ z (Puts x xs ys more m a) (inl is) = In-added x ys more z a (inl is)
In-mixed_back _ _ z (Puts x xs ys more m a) (inr on) = In-added x ys more z a (inr (In-mixed_back xs ys z m on))

-- sums are the same
sum_by-adds : {A : Type 0} (f : A → ℕ) (x : A) (xs ys : List A) → Adds x xs ys → sum_by f ys ≡ f x + sum_by f xs
sum_by-adds f x _ _ (First xs) = sum_by-cons f x xs
sum_by-adds f x _ _ (Later y xs ys a) = omega (arith, sum_by-adds f x xs ys a, sum_by-cons f y xs, sum_by-cons f y ys)

-- a sum does not depend on the order, since an element adds the same wherever it stands
pub sum_by-mixed : {A : Type 0} (f : A → ℕ) (xs ys : List A) → Mixed xs ys → sum_by f ys ≡ sum_by f xs
sum_by-mixed f _ _ Nothing = refl
sum_by-mixed f _ _ (Puts x xs ys more m a) = omega (arith, sum_by-mixed f xs ys m, sum_by-adds f x ys more a, sum_by-cons f x xs)

-- and lengths
length-adds : {A : Type 0} (x : A) (xs ys : List A) → Adds x xs ys → length ys ≡ length xs + 1
length-adds x _ _ (First xs) = omega arith
length-adds x _ _ (Later y xs ys a) = let on : length ys ≡ length xs + 1 = length-adds x xs ys a in omega arith

-- lists of the same elements in another order are equally long, by induction on the elements
pub length-mixed : {A : Type 0} (xs ys : List A) → Mixed xs ys → length ys ≡ length xs
length-mixed _ _ Nothing = refl
length-mixed _ _ (Puts x xs ys more m a) =
    let on : length ys ≡ length xs = length-mixed xs ys m in
    let new : length more ≡ length ys + 1 = length-adds x ys more a in
    omega arith
