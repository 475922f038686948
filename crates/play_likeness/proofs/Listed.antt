-- What holds of each element of a list.
use Rattle.play_likeness.proofs.Common.{Bool, In-list_any, List, [], get_or, inl, inr, length, list_any, subst, sym, take, take_all}
use Rattle.play_likeness.proofs.Common.{take_more, true, ℕ, ◌+◌, ◌<◌, ◌∷◌, ◌≡◌, ◌≤◌}
use Rattle.sm_names.proofs.ListLaws.{In, In-append}

module _ {A : Type 0} (P : A → Type 0) where
  -- It holds of one more.
  pub each-more : (xs : List A) (i : ℕ) (d : A) → i < length xs → ((x : A) → In x (take i xs) → P x) → P (get_or xs i d) →
      (x : A) → In x (take (i + 1) xs) → P x
  each-more xs i d within before here x there =
      elim (In-append (take i xs) (get_or xs i d ∷ []) x (subst (In x) (take_more xs i d within) there)) [
        | inl first ↦ before x first
        | inr last ↦ elim last [ inl is ↦ subst P (sym is) here | inr none ↦ absurd none ]
      ]

  -- At the end it holds of all.
  pub each-all : (xs : List A) (i : ℕ) → length xs ≤ i → ((x : A) → In x (take i xs) → P x) → (x : A) → In x xs → P x
  each-all xs i all before x there = before x (subst (In x) (sym (take_all i xs all)) there)

  -- It holds of what a test finds in the list.
  pub each-listed : (same : A → A → Bool) → ((a b : A) → same a b ≡ true → a ≡ b) → (xs : List A) → ((x : A) → In x xs → P x) →
      (a : A) → list_any (same a) xs ≡ true → P a
  each-listed same is xs each a listed =
      let x = In-list_any (same a) xs listed in
      subst P (sym (is a x.0 x.2)) (each x.0 x.1)
