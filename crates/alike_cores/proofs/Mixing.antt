-- What does not depend on the order of a list.
use Rattle.alike_cores.proofs.Common.{Bool, In, In-any, In-find, Keeps, List, Mixed, Mixes, None, Nothing, Some, Swaps, [], ap}
use Rattle.alike_cores.proofs.Common.{append-nil, arith, both_ways, cond, false, filter, find, flat_map, inl, inr, length, list_any, map}
use Rattle.alike_cores.proofs.Common.{none_or_some, refl, subst, sym, true, ◌++◌, ◌||◌, ◌∙◌, ◌∷◌, ◌≡◌, ◌⊎◌}
use Rattle.std.proofs.lemmas.List.{append_assoc}
use Rattle.sm_names.proofs.ListLaws.{none-find}

-- A list has its own elements.
pub mixed-same : {A : Type 0} (xs : List A) → Mixed xs xs
mixed-same [] = Nothing
mixed-same (x ∷ xs) = Keeps x xs xs (mixed-same xs)

-- Each step can be taken back.
pub mixed-back : {A : Type 0} (xs ys : List A) → Mixed xs ys → Mixed ys xs
mixed-back _ _ Nothing = Nothing
mixed-back _ _ (Keeps x xs ys m) = Keeps x ys xs (mixed-back xs ys m)
mixed-back _ _ (Swaps x y xs) = Swaps y x xs
mixed-back _ _ (Mixes xs ys zs m n) = Mixes zs ys xs (mixed-back ys zs n) (mixed-back xs ys m)

-- An element of the one is one of the other.
pub In-mixed : {A : Type 0} (xs ys : List A) (z : A) → Mixed xs ys → In z xs → In z ys
In-mixed _ _ z Nothing on = on
In-mixed _ _ z (Keeps x xs ys m) (inl is) = inl is
In-mixed _ _ z (Keeps x xs ys m) (inr on) = inr (In-mixed xs ys z m on)
In-mixed _ _ z (Swaps x y xs) (inl is) = inr (inl is)
In-mixed _ _ z (Swaps x y xs) (inr (inl is)) = inl is
In-mixed _ _ z (Swaps x y xs) (inr (inr on)) = inr (inr on)
In-mixed _ _ z (Mixes xs ys zs m n) on = In-mixed ys zs z n (In-mixed xs ys z m on)

-- Element by element.
pub mixed-map : {A B : Type 0} (f : A → B) (xs ys : List A) → Mixed xs ys → Mixed (map f xs) (map f ys)
mixed-map f _ _ Nothing = Nothing
mixed-map f _ _ (Keeps x xs ys m) = Keeps (f x) (map f xs) (map f ys) (mixed-map f xs ys m)
mixed-map f _ _ (Swaps x y xs) = Swaps (f x) (f y) (map f xs)
mixed-map f _ _ (Mixes xs ys zs m n) = Mixes (map f xs) (map f ys) (map f zs) (mixed-map f xs ys m) (mixed-map f ys zs n)

-- An element stays or goes wherever it stands.
pub mixed-filter : {A : Type 0} (p : A → Bool) (xs ys : List A) → Mixed xs ys → Mixed (filter p xs) (filter p ys)
mixed-filter p _ _ Nothing = Nothing
mixed-filter p _ _ (Keeps x xs ys m) =
    elim (p x) as (λ (b : Bool). Mixed (cond b (x ∷ filter p xs) (filter p xs)) (cond b (x ∷ filter p ys) (filter p ys)))
    [ true ↦ Keeps x (filter p xs) (filter p ys) (mixed-filter p xs ys m) | false ↦ mixed-filter p xs ys m ]
mixed-filter {A = A} p _ _ (Swaps x y xs) = both (p x) (p y)
  where
    -- by the four cases
    both : (a b : Bool) → Mixed (cond a (x ∷ cond b (y ∷ filter p xs) (filter p xs)) (cond b (y ∷ filter p xs) (filter p xs)))
        (cond b (y ∷ cond a (x ∷ filter p xs) (filter p xs)) (cond a (x ∷ filter p xs) (filter p xs)))
    both true true = Swaps x y (filter p xs)
    both true false = mixed-same (x ∷ filter p xs)
    both false true = mixed-same (y ∷ filter p xs)
    both false false = mixed-same (filter p xs)
mixed-filter p _ _ (Mixes xs ys zs m n) =
    Mixes (filter p xs) (filter p ys) (filter p zs) (mixed-filter p xs ys m) (mixed-filter p ys zs n)

-- ---- lists one behind another

-- By the list in front.
pub mixed-behind : {A : Type 0} (front xs ys : List A) → Mixed xs ys → Mixed (front ++ xs) (front ++ ys)
mixed-behind [] xs ys m = m
mixed-behind (z ∷ zs) xs ys m = Keeps z (zs ++ xs) (zs ++ ys) (mixed-behind zs xs ys m)

-- By the steps.
pub mixed-before : {A : Type 0} (xs ys more : List A) → Mixed xs ys → Mixed (xs ++ more) (ys ++ more)
mixed-before _ _ more Nothing = mixed-same more
mixed-before _ _ more (Keeps x xs ys m) = Keeps x (xs ++ more) (ys ++ more) (mixed-before xs ys more m)
mixed-before _ _ more (Swaps x y xs) = Swaps x y (xs ++ more)
mixed-before _ _ more (Mixes xs ys zs m n) =
    Mixes (xs ++ more) (ys ++ more) (zs ++ more) (mixed-before xs ys more m) (mixed-before ys zs more n)

-- The element goes to the front over each before it.
pub mixed-front : {A : Type 0} (x : A) (xs ys : List A) → Mixed (xs ++ x ∷ ys) (x ∷ (xs ++ ys))
mixed-front x [] ys = mixed-same (x ∷ ys)
mixed-front x (z ∷ zs) ys =
    Mixes (z ∷ (zs ++ x ∷ ys)) (z ∷ x ∷ (zs ++ ys)) (x ∷ z ∷ (zs ++ ys))
    (Keeps z (zs ++ x ∷ ys) (x ∷ (zs ++ ys)) (mixed-front x zs ys)) (Swaps z x (zs ++ ys))

-- Element by element of the first list.
pub mixed-turned : {A : Type 0} (xs ys : List A) → Mixed (xs ++ ys) (ys ++ xs)
mixed-turned [] ys = subst (Mixed ys) (sym (append-nil ys)) (mixed-same ys)
mixed-turned (x ∷ xs) ys =
    Mixes (x ∷ (xs ++ ys)) (x ∷ (ys ++ xs)) (ys ++ x ∷ xs) (Keeps x (xs ++ ys) (ys ++ xs) (mixed-turned xs ys))
    (mixed-back (ys ++ x ∷ xs) (x ∷ (ys ++ xs)) (mixed-front x ys xs))

-- Part by part: two parts change places.
pub mixed-flat_map : {A B : Type 0} (f : A → List B) (xs ys : List A) → Mixed xs ys → Mixed (flat_map f xs) (flat_map f ys)
mixed-flat_map f _ _ Nothing = Nothing
mixed-flat_map f _ _ (Keeps x xs ys m) = mixed-behind (f x) (flat_map f xs) (flat_map f ys) (mixed-flat_map f xs ys m)
mixed-flat_map {B = B} f _ _ (Swaps x y xs) =
    subst (λ (l : List B). Mixed l (f y ++ (f x ++ flat_map f xs))) (append_assoc (f x) (f y) (flat_map f xs))
    (subst (Mixed ((f x ++ f y) ++ flat_map f xs)) (append_assoc (f y) (f x) (flat_map f xs))
    (mixed-before (f x ++ f y) (f y ++ f x) (flat_map f xs) (mixed-turned (f x) (f y))))
mixed-flat_map f _ _ (Mixes xs ys zs m n) =
    Mixes (flat_map f xs) (flat_map f ys) (flat_map f zs) (mixed-flat_map f xs ys m) (mixed-flat_map f ys zs n)

-- ---- what is read

-- Each step keeps the length.
pub length-mixed : {A : Type 0} (xs ys : List A) → Mixed xs ys → length xs ≡ length ys
length-mixed _ _ Nothing = refl
length-mixed _ _ (Keeps x xs ys m) = let on : length xs ≡ length ys = length-mixed xs ys m in omega arith
length-mixed _ _ (Swaps x y xs) = refl
length-mixed _ _ (Mixes xs ys zs m n) = length-mixed xs ys m ∙ length-mixed ys zs n

-- Either of two may pass first.
pub any-mixed : {A : Type 0} (p : A → Bool) (xs ys : List A) → Mixed xs ys → list_any p xs ≡ list_any p ys
any-mixed p _ _ Nothing = refl
any-mixed p _ _ (Keeps x xs ys m) = ap (λ (b : Bool). p x || b) (any-mixed p xs ys m)
any-mixed p _ _ (Swaps x y xs) = both (p x) (p y) (list_any p xs)
  where
    -- by the four cases
    both : (a b c : Bool) → (a || (b || c)) ≡ (b || (a || c))
    both true true c = refl
    both true false c = refl
    both false true c = refl
    both false false c = refl
any-mixed p _ _ (Mixes xs ys zs m n) = any-mixed p xs ys m ∙ any-mixed p ys zs n

-- the elements that pass are one
abbrev pub Once : {A : Type 0} → (A → Bool) → List A → Type 0
Once {A = A} p xs = (a b : A) → In a xs → In b xs → p a ≡ true → p b ≡ true → a ≡ b

-- What is found in the one is found in the other, since it is the only one that passes.
pub find-mixed : {A : Type 0} (p : A → Bool) (xs ys : List A) → Mixed xs ys → Once p xs → find p xs ≡ find p ys
find-mixed {A = A} p xs ys m once = from (none_or_some (find p xs)) (none_or_some (find p ys))
  where
    -- what is found in a list passes, so that something is found in each other
    none : (us vs : List A) → Mixed us vs → find p us ≡ None → (z : A) → find p vs ≡ Some z → ⊥
    none us vs n missing z found =
        let there = In-find p vs z found in
        both_ways (list_any p us) (In-any p us z (In-mixed vs us z (mixed-back us vs n) there.0) there.1) (none-find p us missing)

    -- by what is found
    from : (find p xs ≡ None) ⊎ ((x : A) × (find p xs ≡ Some x)) → (find p ys ≡ None) ⊎ ((y : A) × (find p ys ≡ Some y)) →
        find p xs ≡ find p ys
    from (inl a) (inl b) = a ∙ sym b
    from (inl a) (inr b) = absurd (none xs ys m a b.0 b.1)
    from (inr a) (inl b) = absurd (none ys xs (mixed-back xs ys m) b a.0 a.1)
    from (inr a) (inr b) =
        let here = In-find p xs a.0 a.1 in
        let there = In-find p ys b.0 b.1 in
        let back = In-mixed ys xs b.0 (mixed-back xs ys m) there.0 in
        a.1 ∙ (ap Some (once a.0 b.0 here.0 back here.1 there.1) ∙ sym b.1)
