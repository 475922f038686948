-- Swaps one after another make no two names one.
use Rattle.core_likeness.proofs.Common.{Bool, KeepsIds, List, NodeKey, [], ap, cond, drop, either_way, eq-eqb, eqb-true, get_or, inl, inr}
use Rattle.core_likeness.proofs.Common.{length, new_id, new_key, new_number, refl, same_key, same_number, subst, sym, true, under, ℕ}
use Rattle.core_likeness.proofs.Common.{◌++◌, ◌+◌, ◌<◌, ◌∙◌, ◌∷◌, ◌≡◌, ◌≤◌}
use Rattle.std.proofs.lemmas.List.{at_drop_all, at_drop_more}
use Rattle.sm_names.proofs.SamenessLaws.{both_tests, same_key-refl, same_key-true}
use Rattle.alike_cores.specs.Renamed.{KeepsKeys}
use Rattle.core_likeness.specs.declared.names.Names.{Names}
use Rattle.core_likeness.specs.Naming.{swapped}

-- ---- one swap after another

module _ {A : Type 0} (same : A → A → Bool) where
  -- The first of the swaps that are left is made.
  pub under-more : (swaps : List (A × A)) (i : ℕ) (d : A × A) (name : A) → i < length swaps →
      under same (drop i swaps) name ≡ under same (drop (i + 1) swaps) (swapped same (get_or swaps i d) name)
  under-more swaps i d name within = at_drop_more (λ l. under same l name) swaps i d within

  -- Where none is left the name stays.
  pub under-done : (swaps : List (A × A)) (i : ℕ) (name : A) → length swaps ≤ i → under same (drop i swaps) name ≡ name
  under-done swaps i name all = at_drop_all (λ l. under same l name) swaps i all

module _ {A : Type 0} (same : A → A → Bool) (is : (a b : A) → same a b ≡ true → a ≡ b) (itself : (a : A) → same a a ≡ true) where
  -- A name that is the first of the swap becomes the second.
  pub first : (a b : A) → swapped same (a, b) a ≡ b
  first a b = ap (λ (t : Bool). cond t b (cond (same b a) a a)) (itself a)

  -- The last swap gives the name that it says.
  pub under-push : (swaps : List (A × A)) (a b : A) → under same (swaps ++ (under same swaps a, b) ∷ []) a ≡ b
  under-push [] a b = first a b
  under-push (swap ∷ swaps) a b = under-push swaps (swapped same swap a) b

  -- A second time it gives the name back.
  back : (swap : A × A) (name : A) → swapped same swap (swapped same swap name) ≡ name
  back swap name = elim (either_way (same swap.0 name)) [
    | inl one ↦
        ap (swapped same swap) (ap (λ (t : Bool). cond t swap.1 (cond (same swap.1 name) swap.0 name)) one)
        ∙ (elim (either_way (same swap.0 swap.1)) [
          | inl both ↦ ap (λ (t : Bool). cond t swap.1 (cond (same swap.1 swap.1) swap.0 swap.1)) both
              ∙ (sym (is swap.0 swap.1 both) ∙ is swap.0 name one)
          | inr apart ↦ ap (λ (t : Bool). cond t swap.1 (cond (same swap.1 swap.1) swap.0 swap.1)) apart
              ∙ (ap (λ (t : Bool). cond t swap.0 swap.1) (itself swap.1) ∙ is swap.0 name one)
        ])
    | inr other ↦ elim (either_way (same swap.1 name)) [
      | inl two ↦
          ap (swapped same swap) (ap (λ (t : Bool). cond t swap.1 (cond (same swap.1 name) swap.0 name)) other
          ∙ ap (λ (t : Bool). cond t swap.0 name) two)
          ∙ (ap (λ (t : Bool). cond t swap.1 (cond (same swap.1 swap.0) swap.0 swap.0)) (itself swap.0) ∙ is swap.1 name two)
      | inr none ↦
          let stays : swapped same swap name ≡ name = ap (λ (t : Bool). cond t swap.1 (cond (same swap.1 name) swap.0 name)) other
          ∙ ap (λ (t : Bool). cond t swap.0 name) none in
          ap (swapped same swap) stays ∙ stays
    ]
  ]

  -- So no two names become one,
  apart-one : (swap : A × A) (a b : A) → same (swapped same swap a) (swapped same swap b) ≡ same a b
  apart-one swap a b =
      both_tests (same (swapped same swap a) (swapped same swap b)) (same a b)
      (λ h. let one : a ≡ b = sym (back swap a) ∙ (ap (swapped same swap) (is (swapped same swap a) (swapped same swap b) h) ∙ back
      swap b) in
      subst (λ (c : A). same a c ≡ true) one (itself a))
      (λ h. subst (λ (c : A). same (swapped same swap a) (swapped same swap c) ≡ true) (is a b h) (itself (swapped same swap a)))

  -- nor do they by several swaps.
  pub apart : (swaps : List (A × A)) (a b : A) → same (under same swaps a) (under same swaps b) ≡ same a b
  apart [] a b = refl
  apart (swap ∷ swaps) a b = apart swaps (swapped same swap a) (swapped same swap b) ∙ apart-one swap a b

-- ---- names

-- A number is itself.
number-is : (a b : ℕ) → same_number a b ≡ true → a ≡ b
number-is a b h = eqb-true a b h

-- And passes.
number-itself : (a : ℕ) → same_number a a ≡ true
number-itself a = eq-eqb a a refl

-- Keys stay apart,
pub keys-apart : (names : Names) → KeepsKeys (new_key names)
keys-apart names = apart same_key same_key-true same_key-refl names.keys.items

-- and numbers of collections,
pub ids-apart : (names : Names) → KeepsIds (new_id names)
ids-apart names = apart same_number number-is number-itself names.ids.items

-- and those of trackers.
pub numbers-apart : (names : Names) → KeepsIds (new_number names)
numbers-apart names = apart same_number number-is number-itself names.numbers.items

-- The last swap of keys gives the key that it says,
pub key-pushed : (swaps : List (NodeKey × NodeKey)) (a b : NodeKey) → under same_key (swaps ++ (under same_key swaps a, b) ∷ []) a ≡ b
key-pushed = under-push same_key same_key-true same_key-refl

-- and that of numbers the number.
pub number-pushed : (swaps : List (ℕ × ℕ)) (a b : ℕ) → under same_number (swaps ++ (under same_number swaps a, b) ∷ []) a ≡ b
number-pushed = under-push same_number number-is number-itself
