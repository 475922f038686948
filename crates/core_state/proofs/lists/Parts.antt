-- Lists that are put together of parts.
use Rattle.core_state.proofs.Common.{In, List, [], arith, both_ways, either_way, eq-eqb, eqb-true, false, filter, flat_map, inl, inr}
use Rattle.core_state.proofs.Common.{refl, reverse, reverse-append, sym, times, ℕ, ◌+◌, ◌==◌, ◌∷◌, ◌≡◌}
use Rattle.core_state.proofs.lists.Reorderings.{Adds, First, Mixed, Nothing, Puts, adds_last, adds_before, adds_behind}

-- numbers differ both ways
turned : (a b : ℕ) → (b == a) ≡ false → (a == b) ≡ false
turned a b differ = elim (either_way (a == b)) [ inl e ↦ both_ways (b == a) (eq-eqb b a (sym (eqb-true a b e))) differ | inr e ↦ e ]

-- each element belongs to one part, and a pick takes those of a part out of a list, in some order
module _ {A : Type 0} (part_of : A → ℕ) (pick : ℕ → List A → List A) (nothing : (k : ℕ) → pick k [] ≡ [])
    (ours : (x : A) (xs : List A) → Adds x (pick (part_of x) xs) (pick (part_of x) (x ∷ xs)))
    (theirs : (k : ℕ) (x : A) (xs : List A) → (part_of x == k) ≡ false → pick k (x ∷ xs) ≡ pick k xs) where
  -- what is picked for each of these parts
  abbrev gathered : List A → List ℕ → List A
  gathered xs ks = flat_map (λ k. pick k xs) ks

  -- out of nothing there is nothing to pick
  gathered_nothing : (ks : List ℕ) → gathered [] ks ≡ []
  gathered_nothing [] = refl
  gathered_nothing (k ∷ ks) = rw (nothing k) (gathered_nothing ks)

  -- an element of a part that is not asked for is not picked
  gathered_absent : (x : A) (xs : List A) (ks : List ℕ) → times (λ k. k == part_of x) ks ≡ 0 → gathered (x ∷ xs) ks ≡ gathered xs ks
  gathered_absent x xs [] none = refl
  gathered_absent x xs (k ∷ ks) none =
      elim (either_way (k == part_of x)) [
        | inl e ↦ let some : times (λ k. k == part_of x) ks + 1 ≡ 0 = rw e at none in absurd (omega arith)
        | inr e ↦
            let other : (part_of x == k) ≡ false = turned (part_of x) k e in
            rw (theirs k x xs other, gathered_absent x xs ks (rw e at none)) refl
      ]

  -- one of a part that is asked for once is picked once
  gathered_once : (x : A) (xs : List A) (ks : List ℕ) → times (λ k. k == part_of x) ks ≡ 1 → Adds x (gathered xs ks) (gathered (x ∷ xs) ks)
  gathered_once x xs [] once = absurd (omega (arith, once))
  gathered_once x xs (k ∷ ks) once =
      elim (either_way (k == part_of x)) [
        | inl e ↦
            let some : times (λ k. k == part_of x) ks + 1 ≡ 1 = rw e at once in
            let none : times (λ k. k == part_of x) ks ≡ 0 = omega arith in
            let is : k ≡ part_of x = eqb-true k (part_of x) e in
            rw (gathered_absent x xs ks none, is) (adds_before x (pick (part_of x) xs) (pick (part_of x) (x ∷ xs)) (gathered xs ks)
            (ours x xs))
        | inr e ↦
            let other : (part_of x == k) ≡ false = turned (part_of x) k e in
            rw (theirs k x xs other) (adds_behind x (gathered xs ks) (gathered (x ∷ xs) ks) (pick k xs)
            (gathered_once x xs ks (rw e at once)))
      ]

  -- so where the part of each element is asked for once, all are gathered
  pub mixed_gathered : (xs : List A) (ks : List ℕ) → ((x : A) → In x xs → times (λ k. k == part_of x) ks ≡ 1) → Mixed xs (gathered xs ks)
  mixed_gathered [] ks once = rw (gathered_nothing ks) Nothing
  mixed_gathered (x ∷ xs) ks once =
      Puts x xs (gathered xs ks) (gathered (x ∷ xs) ks) (mixed_gathered xs ks (λ y on. once y (inr on)))
      (gathered_once x xs ks (once x (inl refl)))

-- ---- the two ways to pick

module _ {A : Type 0} (part_of : A → ℕ) where
  -- those of the part, in order
  abbrev pub in_part : ℕ → List A → List A
  in_part k xs = filter (λ x. part_of x == k) xs

  -- a list is mixed into its parts
  pub mixed_parts : (xs : List A) (ks : List ℕ) → ((x : A) → In x xs → times (λ k. k == part_of x) ks ≡ 1) →
      Mixed xs (flat_map (λ k. filter (λ x. part_of x == k) xs) ks)
  mixed_parts = mixed_gathered part_of in_part (λ k. refl) here other
    where
      here : (x : A) (xs : List A) → Adds x (filter (λ y. part_of y == part_of x) xs) (filter (λ y. part_of y == part_of x) (x ∷ xs))
      here x xs = rw (eq-eqb (part_of x) (part_of x) refl) (First (filter (λ y. part_of y == part_of x) xs))

      other : (k : ℕ) (x : A) (xs : List A) → (part_of x == k) ≡ false → filter (λ y. part_of y == k) (x ∷ xs) ≡ filter (λ y.
          part_of y == k) xs
      other k x xs e = rw e refl

  -- and into its parts, each turned round
  pub mixed_turned : (xs : List A) (ks : List ℕ) → ((x : A) → In x xs → times (λ k. k == part_of x) ks ≡ 1) →
      Mixed xs (flat_map (λ k. reverse (filter (λ x. part_of x == k) xs)) ks)
  mixed_turned = mixed_gathered part_of (λ k xs. reverse (in_part k xs)) (λ k. refl) here other
    where
      here : (x : A) (xs : List A) → Adds x (reverse (filter (λ y. part_of y == part_of x) xs))
          (reverse (filter (λ y. part_of y == part_of x) (x ∷ xs)))
      here x xs =
          let part : List A = filter (λ y. part_of y == part_of x) xs in
          rw (eq-eqb (part_of x) (part_of x) refl, reverse-append (x ∷ []) part) (adds_last x (reverse part))

      other : (k : ℕ) (x : A) (xs : List A) → (part_of x == k) ≡ false →
          reverse (filter (λ y. part_of y == k) (x ∷ xs)) ≡ reverse (filter (λ y. part_of y == k) xs)
      other k x xs e = rw e refl
