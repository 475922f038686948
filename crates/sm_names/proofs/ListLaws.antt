-- Elements of lists, and how many pass a test.
use Rattle.std.proofs.Common.{ℕ, zero, suc, ◌≡◌, ◌≤◌, ◌<◌, ◌+◌, refl, ap, sym, ◌∙◌, Bool, true, false, ◌&&◌, ◌||◌, cond, ◌⊎◌}
use Rattle.std.proofs.Common.{inl, inr, List, [], ◌∷◌, ◌++◌, length, get_or, map, reverse, Option, Some, None, is_some, arith}
use Rattle.std.proofs.lemmas.List.{reverse-append}
use Rattle.std.specs.List.{list_all, list_any, find, filter}
use Rattle.sm_names.proofs.SamenessLaws.{and_both, and_left, and_right, either_way, none_is, or_left, or_right, or_none_left, or_none_right}
pub use Rattle.sm_names.specs.Elements.{In}
use Rattle.sm_names.specs.Words.{first_some, times, when}
use mathlib.Core.List.{reverse_aux}

-- what a filter keeps is an element that passes
pub In-filter : {A : Type 0} (test : A → Bool) (xs : List A) (x : A) → In x (filter test xs) → In x xs × (test x ≡ true)
In-filter test [] x h = absurd h
In-filter test (y ∷ ys) x h =
    elim (either_way (test y)) [
      | inl e ↦ elim (at_true (rw e at h)) [
        | inl is ↦ (inl is, ap test is ∙ e)
        | inr on ↦ let r = In-filter test ys x on in (inr r.0, r.1)
      ]
      | inr e ↦ let on : In x (filter test ys) = rw e at h in let r = In-filter test ys x on in (inr r.0, r.1)
    ]
  where
    -- restates the hypothesis with `≡` and `In`, so that it can be split
    at_true : (x ≡ y) ⊎ In x (filter test ys) → (x ≡ y) ⊎ In x (filter test ys)
    at_true h = h

-- what a map gives comes of an element
pub In-map : {A B : Type 0} (f : A → B) (xs : List A) (y : B) → In y (map f xs) → (x : A) × In x xs × (y ≡ f x)
In-map f [] y h = absurd h
In-map f (x ∷ xs) y (inl is) = (x, inl refl, is)
In-map f (x ∷ xs) y (inr on) = let r = In-map f xs y on in (r.0, inr r.1, r.2)

-- two maps agree where they agree at each element
pub map-In : {A B : Type 0} (f g : A → B) (xs : List A) → ((x : A) → In x xs → f x ≡ g x) → map f xs ≡ map g xs
map-In f g [] same = refl
map-In f g (x ∷ xs) same = λ i. same x (inl refl) i ∷ map-In f g xs (λ y on. same y (inr on)) i

-- two maps one after the other are one
pub map-map : {A B C : Type 0} (g : B → C) (f : A → B) (xs : List A) → map g (map f xs) ≡ map (λ x. g (f x)) xs
map-map g f [] = refl
map-map g f (x ∷ xs) = ap (λ (l : List _). g (f x) ∷ l) (map-map g f xs)

-- an element of a list that is turned round onto another is one of either
In-reverse_aux : {A : Type 0} (xs ys : List A) (x : A) → In x (reverse_aux xs ys) → In x xs ⊎ In x ys
In-reverse_aux [] ys x h = inr h
In-reverse_aux (y ∷ xs) ys x h = elim (In-reverse_aux xs (y ∷ ys) x h) [
  | inl on ↦ inl (inr on)
  | inr there ↦ elim there [ inl is ↦ inl (inl is) | inr on ↦ inr on ]
]

-- an element of the list turned round is one of the list
pub In-reverse : {A : Type 0} (xs : List A) (x : A) → In x (reverse xs) → In x xs
In-reverse xs x h = elim (In-reverse_aux xs [] x h) [ inl on ↦ on | inr none ↦ absurd none ]

-- what is found is an element that passes
pub In-find : {A : Type 0} (test : A → Bool) (xs : List A) (x : A) → find test xs ≡ Some x → In x xs × (test x ≡ true)
In-find test [] x h = cc
In-find test (y ∷ ys) x h =
    elim (either_way (test y)) [
      | inl e ↦ let is : y ≡ x = some_is (rw e at h) in (inl (sym is), ap test (sym is) ∙ e)
      | inr e ↦ let r = In-find test ys x (rw e at h) in (inr r.0, r.1)
    ]
  where
    -- since `Some` is injective
    some_is : Some y ≡ Some x → y ≡ x
    some_is h = cc

-- where no element that is asked for passes, none of them does
pub none-In : {A : Type 0} (asked test : A → Bool) (xs : List A) (x : A) → list_any test (filter asked xs) ≡ false → In x xs →
    asked x ≡ true → test x ≡ false
none-In asked test [] x none on is = absurd on
none-In asked test (y ∷ ys) x none (inl here) is =
    let e : asked y ≡ true = ap asked (sym here) ∙ is in
    let both : (test y || list_any test (filter asked ys)) ≡ false = rw e at none in
    ap test here ∙ or_none_left _ _ both
none-In asked test (y ∷ ys) x none (inr on) is =
    elim (either_way (asked y)) [
      | inl e ↦
          let both : (test y || list_any test (filter asked ys)) ≡ false = rw e at none in
          none-In asked test ys x (or_none_right _ _ both) on is
      | inr e ↦ none-In asked test ys x (rw e at none) on is
    ]

-- an element that passes is kept
pub In-filter-back : {A : Type 0} (test : A → Bool) (xs : List A) (x : A) → In x xs → test x ≡ true → In x (filter test xs)
In-filter-back test [] x on is = absurd on
In-filter-back test (y ∷ ys) x (inl here) is = let e : test y ≡ true = ap test (sym here) ∙ is in rw e (inl here)
In-filter-back test (y ∷ ys) x (inr on) is =
    elim (either_way (test y)) [
      | inl e ↦ rw e (inr (In-filter-back test ys x on is))
      | inr e ↦ rw e (In-filter-back test ys x on is)
    ]

-- what a map makes of an element is in the mapped list
pub In-map-back : {A B : Type 0} (f : A → B) (xs : List A) (x : A) → In x xs → In (f x) (map f xs)
In-map-back f [] x on = absurd on
In-map-back f (y ∷ ys) x (inl here) = inl (ap f here)
In-map-back f (y ∷ ys) x (inr on) = inr (In-map-back f ys x on)

-- an element of either list is in the one turned round onto the other
In-reverse_aux-back : {A : Type 0} (xs ys : List A) (x : A) → In x xs ⊎ In x ys → In x (reverse_aux xs ys)
In-reverse_aux-back [] ys x (inl on) = absurd on
In-reverse_aux-back [] ys x (inr on) = on
In-reverse_aux-back (y ∷ xs) ys x (inl on) = elim on [
  | inl here ↦ In-reverse_aux-back xs (y ∷ ys) x (inr (inl here))
  | inr there ↦ In-reverse_aux-back xs (y ∷ ys) x (inl there)
]
In-reverse_aux-back (y ∷ xs) ys x (inr on) = In-reverse_aux-back xs (y ∷ ys) x (inr (inr on))

-- an element of the list is one of the list turned round
pub In-reverse-back : {A : Type 0} (xs : List A) (x : A) → In x xs → In x (reverse xs)
In-reverse-back xs x on = In-reverse_aux-back xs [] x (inl on)

-- an element of two lists is one of either
pub In-append : {A : Type 0} (xs ys : List A) (x : A) → In x (xs ++ ys) → In x xs ⊎ In x ys
In-append [] ys x on = inr on
In-append (y ∷ xs) ys x (inl is) = inl (inl is)
In-append (y ∷ xs) ys x (inr on) = elim (In-append xs ys x on) [ inl here ↦ inl (inr here) | inr there ↦ inr there ]

-- an element of the first of two lists is one of both
pub In-front : {A : Type 0} (xs ys : List A) (x : A) → In x xs → In x (xs ++ ys)
In-front [] ys x on = absurd on
In-front (z ∷ zs) ys x (inl is) = inl is
In-front (z ∷ zs) ys x (inr on) = inr (In-front zs ys x on)

-- and so is one of the second
pub In-behind : {A : Type 0} (xs ys : List A) (x : A) → In x ys → In x (xs ++ ys)
In-behind [] ys x on = on
In-behind (z ∷ zs) ys x on = inr (In-behind zs ys x on)

-- where some pass, there is an element that does
pub In-list_any : {A : Type 0} (test : A → Bool) (xs : List A) → list_any test xs ≡ true → (x : A) × In x xs × (test x ≡ true)
In-list_any test [] h = cc
In-list_any test (y ∷ ys) h =
    elim (either_way (test y)) [
      | inl e ↦ (y, inl refl, e)
      | inr e ↦ let r = In-list_any test ys (rw e at h) in (r.0, inr r.1, r.2)
    ]

-- where an element passes, some do
pub In-any : {A : Type 0} (test : A → Bool) (xs : List A) (x : A) → In x xs → test x ≡ true → list_any test xs ≡ true
In-any test [] x on is = absurd on
In-any test (y ∷ ys) x (inl here) is = or_left _ _ (ap test (sym here) ∙ is)
In-any test (y ∷ ys) x (inr on) is = or_right (test y) _ (In-any test ys x on is)

-- where each element passes, all do
pub all_on : {A : Type 0} (test : A → Bool) (xs : List A) → ((x : A) → In x xs → test x ≡ true) → list_all test xs ≡ true
all_on test [] passes = refl
all_on test (x ∷ xs) passes = rw (passes x (inl refl)) (all_on test xs (λ y on. passes y (inr on)))

-- some of a mapped list pass where some pass the same test before
pub list_any-map : {A B : Type 0} (p : B → Bool) (q : A → Bool) (f : A → B) (xs : List A) → ((x : A) → In x xs → p (f x) ≡ q x) →
    list_any p (map f xs) ≡ list_any q xs
list_any-map p q f [] same = refl
list_any-map p q f (x ∷ xs) same = λ i. same x (inl refl) i || list_any-map p q f xs (λ y on. same y (inr on)) i

-- what lies at a place is an element
pub In-get_or : {A : Type 0} (xs : List A) (i : ℕ) (d : A) → i < length xs → In (get_or xs i d) xs
In-get_or [] i d within = absurd (omega arith)
In-get_or (x ∷ xs) zero d within = inl refl
In-get_or (x ∷ xs) (suc n) d within = inr (In-get_or xs n d (omega arith))

-- the first value that is there is in the list
pub In-first_some : {A : Type 0} (os : List (Option A)) (x : A) → first_some os ≡ Some x → In (Some x) os
In-first_some [] x h = cc
In-first_some (None ∷ os) x h = inr (In-first_some os x h)
In-first_some (Some y ∷ os) x h = inl (sym h)

-- where there is a value, its test holds
pub when-Some : {A : Type 0} (b : Bool) (x y : A) → when b x ≡ Some y → (b ≡ true) × (x ≡ y)
when-Some true x y h = (refl, cc)
when-Some false x y h = cc

-- what is not there failed its test
pub when-None : {A : Type 0} (b : Bool) (x : A) → when b x ≡ None → b ≡ false
when-None true x h = cc
when-None false x h = refl

-- if no element passes, the filtered list is empty
pub filter-none : {A : Type 0} (test : A → Bool) (xs : List A) → ((x : A) → In x xs → test x ≡ false) → filter test xs ≡ []
filter-none test [] h = refl
filter-none test (x ∷ xs) h = let e : test x ≡ false = h x (inl refl) in rw e (filter-none test xs (λ y on. h y (inr on)))

-- if all elements pass, all elements of a filtered list pass
pub list_all-filter : {A : Type 0} (test keep : A → Bool) (xs : List A) → list_all test xs ≡ true → list_all test (filter keep xs) ≡ true
list_all-filter test keep [] all = refl
list_all-filter test keep (x ∷ xs) all =
    let rest : list_all test (filter keep xs) ≡ true = list_all-filter test keep xs (and_right (test x) (list_all test xs) all) in
    elim (either_way (keep x)) [
      | inl e ↦ rw e (and_both (test x) (list_all test (filter keep xs)) (and_left (test x) (list_all test xs) all) rest)
      | inr e ↦ rw e rest
    ]

-- two filters in turn give the same in either order
pub filter-swap : {A : Type 0} (p q : A → Bool) (xs : List A) → filter p (filter q xs) ≡ filter q (filter p xs)
filter-swap p q [] = refl
filter-swap {A = A} p q (x ∷ xs) =
    elim (either_way (p x)) [
      | inl e ↦ elim (either_way (q x)) [
        | inl f ↦ rw (e, f, e) (ap (λ (l : List A). x ∷ l) (filter-swap p q xs))
        | inr f ↦ rw (e, f) (filter-swap p q xs)
      ]
      | inr e ↦ elim (either_way (q x)) [
        | inl f ↦ rw (e, f, e) (filter-swap p q xs)
        | inr f ↦ rw (e, f) (filter-swap p q xs)
      ]
    ]

-- what passes the narrower test may first be kept by the wider one
pub filter-less : {A : Type 0} (p q : A → Bool) (xs : List A) → ((x : A) → p x ≡ true → q x ≡ true) → filter p xs ≡ filter p (filter q xs)
filter-less p q [] less = refl
filter-less p q (x ∷ xs) less =
    let on : filter p xs ≡ filter p (filter q xs) = filter-less p q xs less in
    elim (either_way (p x)) [
      | inl e ↦ let f : q x ≡ true = less x e in rw (f, e) (ap (λ (ys : List _). x ∷ ys) on)
      | inr e ↦ elim (either_way (q x)) [
        | inl f ↦ rw (f, e) on
        | inr f ↦ rw (f, e) on
      ]
    ]

-- two filters agree where their tests do
pub filter-In : {A : Type 0} (p q : A → Bool) (xs : List A) → ((x : A) → In x xs → p x ≡ q x) → filter p xs ≡ filter q xs
filter-In p q [] same = refl
filter-In p q (x ∷ xs) same =
    λ i. cond (same x (inl refl) i) (x ∷ filter-In p q xs (λ y on. same y (inr on)) i) (filter-In p q xs (λ y on. same y (inr on)) i)

-- a list whose elements all pass is kept whole
pub filter-all : {A : Type 0} (test : A → Bool) (xs : List A) → ((x : A) → In x xs → test x ≡ true) → filter test xs ≡ xs
filter-all test [] all = refl
filter-all {A = A} test (x ∷ xs) all =
    let e : test x ≡ true = all x (inl refl) in
    rw e (ap (λ (ys : List A). x ∷ ys) (filter-all test xs (λ y on. all y (inr on))))

-- if all elements pass, filtering changes nothing
pub filter-list_all : {A : Type 0} (test : A → Bool) (xs : List A) → list_all test xs ≡ true → filter test xs ≡ xs
filter-list_all test [] all = refl
filter-list_all {A = A} test (x ∷ xs) all =
    rw (and_left (test x) (list_all test xs) all)
    (ap (λ (l : List A). x ∷ l) (filter-list_all test xs (and_right (test x) (list_all test xs) all)))

-- maps that agree do so at each element
pub map-at : {A B : Type 0} (f g : A → B) (xs : List A) → map f xs ≡ map g xs → (x : A) → In x xs → f x ≡ g x
map-at f g [] same x on = absurd on
map-at f g (y ∷ ys) same x (inl is) = let here : f y ≡ g y = cc in ap f is ∙ (here ∙ ap g (sym is))
map-at f g (y ∷ ys) same x (inr on) = let rest : map f ys ≡ map g ys = cc in map-at f g ys rest x on

-- something is found exactly if something passes
pub is_some-find : {A : Type 0} (test : A → Bool) (xs : List A) → is_some (find test xs) ≡ list_any test xs
is_some-find test [] = refl
is_some-find test (x ∷ xs) = elim (test x) as (λ (b : Bool). is_some (cond b (Some x) (find test xs)) ≡ (b || list_any test xs))
    [ true ↦ refl | false ↦ is_some-find test xs ]

-- where none passes, none is found
pub find-none : {A : Type 0} (test : A → Bool) (xs : List A) → list_any test xs ≡ false → find test xs ≡ None
find-none test xs none = none_is (find test xs) (is_some-find test xs ∙ none)

-- and where none is found, none passes
pub none-find : {A : Type 0} (test : A → Bool) (xs : List A) → find test xs ≡ None → list_any test xs ≡ false
none-find test xs none = sym (is_some-find test xs) ∙ ap is_some none

-- ---- how many

-- no more pass than there are
pub times-le-length : {A : Type 0} (test : A → Bool) (xs : List A) → times test xs ≤ length xs
times-le-length test [] = omega arith
times-le-length test (x ∷ xs) =
    let rest : times test xs ≤ length xs = times-le-length test xs in
    elim (test x) as (λ (b : Bool). cond b (times test xs + 1) (times test xs) ≤ length (x ∷ xs))
    [ true ↦ omega arith | false ↦ omega arith ]

-- fewer pass a test that asks more
pub times-le : {A : Type 0} (p q : A → Bool) (xs : List A) → ((x : A) → In x xs → p x ≡ true → q x ≡ true) → times p xs ≤ times q xs
times-le p q [] h = omega arith
times-le p q (x ∷ xs) h =
    let rest : times p xs ≤ times q xs = times-le p q xs (λ y on. h y (inr on)) in
    elim (either_way (p x)) [
      | inl e ↦ let f : q x ≡ true = h x (inl refl) e in rw (e, f) (omega arith)
      | inr e ↦ rw e (elim (q x) as (λ (b : Bool). times p xs ≤ cond b (times q xs + 1) (times q xs))
          [ true ↦ omega arith | false ↦ omega arith ])
    ]

-- and fewer by at least one that does not pass any more
pub times-lt : {A : Type 0} (p q : A → Bool) (xs : List A) (y : A) → ((x : A) → In x xs → p x ≡ true → q x ≡ true) → In y xs → p y ≡ false →
    q y ≡ true → times p xs < times q xs
times-lt p q [] y h on fails passes = absurd on
times-lt p q (x ∷ xs) y h (inl is) fails passes =
    let rest : times p xs ≤ times q xs = times-le p q xs (λ z on. h z (inr on)) in
    let e : p x ≡ false = ap p (sym is) ∙ fails in
    let f : q x ≡ true = ap q (sym is) ∙ passes in
    rw (e, f) (omega arith)
times-lt p q (x ∷ xs) y h (inr on) fails passes =
    let rest : times p xs < times q xs = times-lt p q xs y (λ z there. h z (inr there)) on fails passes in
    elim (either_way (p x)) [
      | inl e ↦ let f : q x ≡ true = h x (inl refl) e in rw (e, f) (omega arith)
      | inr e ↦ rw e (elim (q x) as (λ (b : Bool). times p xs < cond b (times q xs + 1) (times q xs))
          [ true ↦ omega arith | false ↦ omega arith ])
    ]

-- none passes a test that fails
pub times-none : {A : Type 0} (xs : List A) → times (λ x. false) xs ≡ 0
times-none [] = refl
times-none (x ∷ xs) = times-none xs

-- where none of the elements passes, none is counted
pub times-zero : {A : Type 0} (test : A → Bool) (xs : List A) → ((x : A) → In x xs → test x ≡ false) → times test xs ≡ 0
times-zero test [] none = refl
times-zero test (x ∷ xs) none = rw (none x (inl refl)) (times-zero test xs (λ y on. none y (inr on)))

-- as many pass as in both parts
pub times-append : {A : Type 0} (test : A → Bool) (xs ys : List A) → times test (xs ++ ys) ≡ times test xs + times test ys
times-append test [] ys = omega arith
times-append test (x ∷ xs) ys =
    let rest : times test (xs ++ ys) ≡ times test xs + times test ys = times-append test xs ys in
    elim (test x) as (λ (b : Bool). cond b (times test (xs ++ ys) + 1) (times test (xs ++ ys)) ≡ cond b (times test xs + 1)
    (times test xs) + times test ys) [ true ↦ omega arith | false ↦ rest ]

-- as many pass in the other order
pub times-reverse : {A : Type 0} (test : A → Bool) (xs : List A) → times test (reverse xs) ≡ times test xs
times-reverse test [] = refl
times-reverse test (x ∷ xs) =
    let rest : times test (reverse xs) ≡ times test xs = times-reverse test xs in
    ap (times test) (reverse-append (x ∷ []) xs) ∙ (times-append test (reverse xs) (x ∷ [])
    ∙ elim (test x) as (λ (b : Bool). times test (reverse xs) + cond b 1 0 ≡ cond b (times test xs + 1) (times test xs))
    [ true ↦ omega arith | false ↦ omega arith ])

-- of those that were asked for, as many pass as pass both tests
pub times-map_filter : {A B : Type 0} (test : B → Bool) (asked : A → Bool) (f : A → B) (xs : List A) →
    times test (map f (filter asked xs)) ≡ times (λ x. asked x && test (f x)) xs
times-map_filter test asked f [] = refl
times-map_filter test asked f (x ∷ xs) =
    elim (either_way (asked x)) [
      | inl e ↦ rw e (ap (λ (n : ℕ). cond (test (f x)) (n + 1) n) (times-map_filter test asked f xs))
      | inr e ↦ rw e (times-map_filter test asked f xs)
    ]
