-- Collections by their ids: one is put in its place, and some are forgotten.
use Rattle.core_state.proofs.Common.{Bool, Collection, In, In-append, List, [], ap, arith, cond, either_way, eq-eqb, false, false_if}
use Rattle.core_state.proofs.Common.{filter, inl, inr, lt-ltb, ltb-true, map, nat_lt, put, refl, sym, true, ℕ, ◌&&◌, ◌++◌, ◌<◌, ◌==◌}
use Rattle.core_state.proofs.Common.{◌||◌, ◌∙◌, ◌∷◌, ◌≡◌}
use Rattle.forest_store.proofs.lists.StableSort.{other_number, other_greater}

-- ---- numbers in order

-- each number is smaller than those after it
abbrev pub IsRising : List ℕ → Type 0
IsRising [] = Unit {0}
IsRising (n ∷ ns) = ((m : ℕ) → In m ns → n < m) × IsRising ns

-- a greater one at the end keeps them so
pub rising-push : (ns : List ℕ) (m : ℕ) → IsRising ns → ((n : ℕ) → In n ns → n < m) → IsRising (ns ++ m ∷ [])
rising-push [] m r below = (λ k on. absurd on, tt)
rising-push (n ∷ ns) m r below = (
  λ k on. elim (In-append ns (m ∷ []) k on) [
    | inl early ↦ r.0 k early
    | inr last ↦
        elim last [ inl is ↦ let x : k ≡ m = is in let y : n < m = below n (inl refl) in omega (arith, x, y) | inr none ↦ absurd none ]
  ],
  rising-push ns m r.1 (λ k on. below k (inr on)),
)

-- a number that is not smaller is not found so
not_below : (a b : ℕ) → b < a → nat_lt a b ≡ false
not_below a b h = false_if (nat_lt a b) (λ e. let is : a < b = ltb-true a b e in omega (arith, is, h))

-- ---- filters and maps

-- what is left of what a map makes of those that are asked for
pub filter-map_asked : {A B : Type 0} (test : B → Bool) (f : A → B) (asked : A → Bool) (xs : List A) →
    filter test (map f (filter asked xs)) ≡ map f (filter (λ x. asked x && test (f x)) xs)
filter-map_asked test f asked [] = refl
filter-map_asked test f asked (x ∷ xs) =
    elim (either_way (asked x)) [
      | inl e ↦ elim (either_way (test (f x))) [
        | inl t ↦ rw (e, t) (ap (λ (l : List _). f x ∷ l) (filter-map_asked test f asked xs))
        | inr t ↦ rw (e, t) (filter-map_asked test f asked xs)
      ]
      | inr e ↦ rw e (filter-map_asked test f asked xs)
    ]

-- maps of those that are asked for agree where what is asked and what is made do
pub map-asked : {A B : Type 0} (f g : A → B) (p q : A → Bool) (xs : List A) → ((x : A) → In x xs → p x ≡ q x) →
    ((x : A) → In x xs → q x ≡ true → f x ≡ g x) → map f (filter p xs) ≡ map g (filter q xs)
map-asked f g p q [] asks makes = refl
map-asked f g p q (x ∷ xs) asks makes =
    let rest : map f (filter p xs) ≡ map g (filter q xs) = map-asked f g p q xs (λ y on. asks y (inr on)) (λ y on. makes y (inr on)) in
    elim (either_way (q x)) [
      | inl e ↦
          let here : p x ≡ true = asks x (inl refl) ∙ e in
          let made : f x ≡ g x = makes x (inl refl) e in
          rw (here, e) (λ i. made i ∷ rest i)
      | inr e ↦ let here : p x ≡ false = asks x (inl refl) ∙ e in rw (here, e) rest
    ]

-- ---- a collection in its place

module _ (f : ℕ → Collection) (named : (d : ℕ) → (f d).id ≡ d) (new : Collection) where
  -- the collection with this id, the new one among them
  abbrev pub with_new : ℕ → Collection
  with_new d = cond (d == new.id) new (f d)

  -- before all that are greater
  put-first : (kept : ℕ → Bool) (ds : List ℕ) → ((d : ℕ) → In d ds → new.id < d) →
      put new (map f (filter kept ds)) ≡ new ∷ map f (filter kept ds)
  put-first kept [] above = refl
  put-first kept (d ∷ ds) above =
      elim (either_way (kept d)) [
        | inl e ↦
            let h : new.id < d = above d (inl refl) in
            let other : ((f d).id == new.id) ≡ false = ap (λ (n : ℕ). n == new.id) (named d) ∙ other_greater d new.id h in
            let before : nat_lt new.id (f d).id ≡ true = ap (λ (n : ℕ). nat_lt new.id n) (named d) ∙ lt-ltb new.id d h in
            rw (e, other, before) refl
        | inr e ↦ rw e (put-first kept ds (λ k on. above k (inr on)))
      ]

  -- the greater ones stay as they were
  others-stay : (kept : ℕ → Bool) (ds : List ℕ) → ((d : ℕ) → In d ds → new.id < d) →
      map f (filter kept ds) ≡ map with_new (filter (λ d. d == new.id || kept d) ds)
  others-stay kept ds above = map-asked f with_new kept (λ d. d == new.id || kept d) ds
      (λ d on. let other : (d == new.id) ≡ false = other_greater d new.id (above d on) in rw other refl)
      (λ d on asked. let other : (d == new.id) ≡ false = other_greater d new.id (above d on) in rw other refl)

  -- among ids in order, of which some are kept, it comes where its id is
  pub put-map : (kept : ℕ → Bool) (ds : List ℕ) → IsRising ds → In new.id ds →
      put new (map f (filter kept ds)) ≡ map with_new (filter (λ d. d == new.id || kept d) ds)
  put-map kept [] r on = absurd on
  put-map kept (d ∷ ds) r (inl is) =
      let here : (d == new.id) ≡ true = eq-eqb d new.id (sym is) in
      let above : (k : ℕ) → In k ds → new.id < k = λ k on. (let x : d < k = r.0 k on in let y : new.id ≡ d = is in omega (arith, x, y)) in
      let rest : map f (filter kept ds) ≡ map with_new (filter (λ k. k == new.id || kept k) ds) = others-stay kept ds above in
      elim (either_way (kept d)) [
        | inl e ↦
            let same : ((f d).id == new.id) ≡ true = ap (λ (n : ℕ). n == new.id) (named d) ∙ here in
            rw (here, e, same, here) (ap (λ (l : List Collection). new ∷ l) rest)
        | inr e ↦ rw (here, e, here) (put-first kept ds above ∙ ap (λ (l : List Collection). new ∷ l) rest)
      ]
  put-map kept (d ∷ ds) r (inr on) =
      let h : d < new.id = r.0 new.id on in
      let other : (d == new.id) ≡ false = other_number d new.id h in
      let rest : put new (map f (filter kept ds)) ≡ map with_new (filter (λ k. k == new.id || kept k) ds) = put-map kept ds r.1 on in
      elim (either_way (kept d)) [
        | inl e ↦
            let same : ((f d).id == new.id) ≡ false = ap (λ (n : ℕ). n == new.id) (named d) ∙ other in
            let not_before : nat_lt new.id (f d).id ≡ false = ap (λ (n : ℕ). nat_lt new.id n) (named d) ∙ not_below new.id d h in
            rw (other, e, same, not_before, other) (ap (λ (l : List Collection). f d ∷ l) rest)
        | inr e ↦ rw (other, e) rest
      ]
