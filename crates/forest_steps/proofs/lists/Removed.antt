-- Lists of which one is taken out, and those that a filter leaves.
use Rattle.forest_steps.proofs.Common.{ℕ, zero, suc, ◌+◌, ◌≡◌, ◌<◌, ◌∙◌, ◌≤◌, refl, sym, ap, true, false, inl}
use Rattle.forest_steps.proofs.Common.{inr, Bool, List, [], ◌∷◌, ◌++◌, length, take, drop, get_or, arith, filter}
use Rattle.forest_steps.proofs.Common.{list_all, and_both, and_left, and_right, either_way, at_drop_more}
use Rattle.std.proofs.lemmas.List.{take-append-drop}
use Rattle.std.specs.List.{remove}

module _ {X : Type 0} (p : X → Bool) where
  -- no more pass than there are
  few : (xs : List X) → length (filter p xs) ≤ length xs
  few [] = omega arith
  few (x ∷ xs) = elim (either_way (p x)) [
    | inl e ↦ rw e (omega (arith, few xs))
    | inr e ↦ rw e (omega (arith, few xs))
  ]

  -- where as many pass as there are, all do
  pub filter_whole : (xs : List X) → length (filter p xs) ≡ length xs → filter p xs ≡ xs
  filter_whole [] all = refl
  filter_whole (x ∷ xs) all = elim (either_way (p x)) [
    | inl e ↦ rw e (ap (λ ys. x ∷ ys) (filter_whole xs (let more = rw e at all in omega (arith, more))))
    | inr e ↦ let more = rw e at all in absurd (omega (arith, more, few xs))
  ]

  -- where none passes
  pub filter_empty : (xs : List X) → length (filter p xs) ≡ 0 → filter p xs ≡ []
  filter_empty [] none = refl
  filter_empty (x ∷ xs) none = elim (either_way (p x)) [
    | inl e ↦ let more = rw e at none in absurd (omega (arith, more))
    | inr e ↦ let more = rw e at none in rw e (filter_empty xs more)
  ]

  -- one that does not pass is removed
  pub filter_removed : (xs : List X) (at : ℕ) (d : X) → at < length xs → p (get_or xs at d) ≡ false → filter p (remove xs at) ≡ filter p xs
  filter_removed [] at d within fails = absurd (omega (arith, within))
  filter_removed (x ∷ xs) zero d within fails = rw fails refl
  filter_removed (x ∷ xs) (suc at) d within fails = elim (either_way (p x)) [
    | inl e ↦ rw e (ap (λ ys. x ∷ ys) (filter_removed xs at d (omega (arith, within)) fails))
    | inr e ↦ rw e (filter_removed xs at d (omega (arith, within)) fails)
  ]

  -- what all pass, those that are left pass
  pub all_removed : (xs : List X) (at : ℕ) → list_all p xs ≡ true → list_all p (remove xs at) ≡ true
  all_removed [] zero all = refl
  all_removed [] (suc at) all = refl
  all_removed (x ∷ xs) zero all = and_right _ _ all
  all_removed (x ∷ xs) (suc at) all = and_both _ _ (and_left _ _ all) (all_removed xs at (and_right _ _ all))

-- those before it stay where they are
pub take_removed : {X : Type 0} (xs : List X) (at : ℕ) → at < length xs → take at (remove xs at) ≡ take at xs
take_removed [] at within = absurd (omega (arith, within))
take_removed (x ∷ xs) zero within = refl
take_removed (x ∷ xs) (suc at) within = ap (λ ys. x ∷ ys) (take_removed xs at (omega (arith, within)))

-- those before it and those behind it
pub around : {X : Type 0} (xs : List X) (at : ℕ) (d : X) → at < length xs → xs ≡ take at xs ++ get_or xs at d ∷ drop (at + 1) xs
around xs at d within = sym (take-append-drop at xs) ∙ at_drop_more (λ ys. take at xs ++ ys) xs at d within

-- are left without it
pub left_around : {X : Type 0} (xs : List X) (at : ℕ) → at < length xs → remove xs at ≡ take at xs ++ drop (at + 1) xs
left_around [] at within = absurd (omega (arith, within))
left_around (x ∷ xs) zero within = refl
left_around (x ∷ xs) (suc at) within =
    let next : suc at + 1 ≡ suc (at + 1) = omega arith in
    rw next (ap (λ ys. x ∷ ys) (left_around xs at (omega (arith, within))))
