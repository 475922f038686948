-- Lists that are mapped, filtered and turned round.
use Rattle.core_state.proofs.Common.{Bool, In, List, None, Some, [], ap, both_ways, cond, either_way, eqb-true, false, filter, find}
use Rattle.core_state.proofs.Common.{flat_map, inl, inr, list_any, map, map-append, option_map, refl, reverse, sym, true, ℕ, ◌&&◌, ◌++◌}
use Rattle.core_state.proofs.Common.{◌==◌, ◌||◌, ◌∙◌, ◌∷◌, ◌≡◌}
use Rattle.forest_store.proofs.tables.KeptRoots.{filter-reverse_aux, map-reverse_aux}

-- ---- filters

-- what is kept of a mapped list comes of what passes before it
pub filter-map : {A B : Type 0} (test : B → Bool) (f : A → B) (xs : List A) → filter test (map f xs) ≡ map f (filter (λ x. test (f x)) xs)
filter-map test f [] = refl
filter-map {B = B} test f (x ∷ xs) =
    elim (either_way (test (f x))) [
      | inl e ↦ rw e (ap (λ (ys : List B). f x ∷ ys) (filter-map test f xs))
      | inr e ↦ rw e (filter-map test f xs)
    ]

-- two filters are one by both tests
pub filter-filter : {A : Type 0} (p q : A → Bool) (xs : List A) → filter p (filter q xs) ≡ filter (λ x. q x && p x) xs
filter-filter p q [] = refl
filter-filter {A = A} p q (x ∷ xs) =
    elim (either_way (q x)) [
      | inl e ↦ rw e (elim (p x) as (λ (b : Bool). cond b (x ∷ filter p (filter q xs)) (filter p (filter q xs)) ≡ cond b (x ∷ filter (λ x.
          q x && p x) xs) (filter (λ x. q x && p x) xs)) [
            | true ↦ ap (λ (ys : List A). x ∷ ys) (filter-filter p q xs)
            | false ↦ filter-filter p q xs
          ])
      | inr e ↦ rw e (filter-filter p q xs)
    ]

-- ---- maps and finds

-- two maps in turn, where each element of the list comes out alike
pub map-map_In : {A B C : Type 0} (f : A → B) (g : A → C) (h : B → C) (xs : List A) → ((x : A) → In x xs → g x ≡ h (f x)) →
    map g xs ≡ map h (map f xs)
map-map_In f g h [] same = refl
map-map_In f g h (x ∷ xs) same = λ i. same x (inl refl) i ∷ map-map_In f g h xs (λ y on. same y (inr on)) i

-- ---- lists turned round

-- a map may be turned round before or after
pub map-reverse : {A B : Type 0} (f : A → B) (xs : List A) → map f (reverse xs) ≡ reverse (map f xs)
map-reverse f xs = map-reverse_aux f xs []

-- what is kept may be turned round before or after
pub filter-reverse : {A : Type 0} (test : A → Bool) (xs : List A) → filter test (reverse xs) ≡ reverse (filter test xs)
filter-reverse test xs = filter-reverse_aux test xs []

-- what is found in a map is made of what is found
pub find-map : {A B : Type 0} (p : B → Bool) (f : A → B) (xs : List A) → find p (map f xs) ≡ option_map f (find (λ x. p (f x)) xs)
find-map p f [] = refl
find-map p f (x ∷ xs) =
    elim (p (f x)) as (λ (b : Bool). cond b (Some (f x)) (find p (map f xs)) ≡ option_map f (cond b (Some x) (find (λ y. p (f y)) xs)))
    [ true ↦ refl | false ↦ find-map p f xs ]

-- some of a map pass if some pass the test of what is made of them
pub list_any-map : {A B : Type 0} (p : B → Bool) (f : A → B) (xs : List A) → list_any p (map f xs) ≡ list_any (λ x. p (f x)) xs
list_any-map p f [] = refl
list_any-map p f (x ∷ xs) = ap (λ (b : Bool). p (f x) || b) (list_any-map p f xs)

-- a map of parts is put together of maps
pub map-flat_map : {A B : Type 0} (f : A → B) (part : ℕ → List A) (ks : List ℕ) →
    map f (flat_map part ks) ≡ flat_map (λ k. map f (part k)) ks
map-flat_map f part [] = refl
map-flat_map f part (k ∷ ks) = map-append f (part k) (flat_map part ks) ∙ ap (λ (l : List _). map f (part k) ++ l) (map-flat_map f part ks)

-- parts that agree are put together to the same
pub flat_map-same : {B : Type 0} (f g : ℕ → List B) (ks : List ℕ) → ((k : ℕ) → f k ≡ g k) → flat_map f ks ≡ flat_map g ks
flat_map-same f g ks same = λ i. flat_map (λ k. same k i) ks

-- where only one element passes, it is found
pub find_only : {A : Type 0} (p : A → Bool) (xs : List A) (x : A) → In x xs → p x ≡ true → ((y : A) → In y xs → p y ≡ true → y ≡ x) →
    find p xs ≡ Some x
find_only p [] x on is only = absurd on
find_only p (y ∷ ys) x on is only =
    elim (either_way (p y)) [
      | inl e ↦ rw e (ap Some (only y (inl refl) e))
      | inr e ↦ rw e (elim on [
        | inl here ↦ both_ways (p y) (ap p (sym here) ∙ is) e
        | inr there ↦ find_only p ys x there is (λ z far. only z (inr far))
      ])
    ]

-- where none passes, none is found
pub find_none : {A : Type 0} (p : A → Bool) (xs : List A) → ((y : A) → In y xs → p y ≡ false) → find p xs ≡ None
find_none p [] none = refl
find_none p (y ∷ ys) none = rw (none y (inl refl)) (find_none p ys (λ z on. none z (inr on)))

-- a number is found if it is there
pub find_number : (n : ℕ) (ns : List ℕ) → find (λ m. m == n) ns ≡ cond (list_any (λ m. m == n) ns) (Some n) None
find_number n [] = refl
find_number n (m ∷ ms) = elim (either_way (m == n)) [
  | inl e ↦ rw e (ap Some (eqb-true m n e))
  | inr e ↦ rw e (find_number n ms)
]
