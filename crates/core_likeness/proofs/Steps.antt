-- One element more of lists that go side by side.
use Rattle.std.proofs.Common.{ℕ, ◌≡◌, ◌+◌, ◌<◌, ◌≤◌, ap, sym, ◌∙◌, List, [], ◌∷◌, ◌++◌, get_or, length, map, take}
use Rattle.std.proofs.lemmas.List.{map-append, take_all, take_more}

module _ {A B C : Type 0} (f : A → C) (g : B → C) where
  -- They stay the same where the next are.
  pub alike-more : (xs : List A) (ys : List B) (i : ℕ) (d : A) (e : B) → i < length xs → i < length ys → map f (take i xs) ≡ map g
      (take i ys) →
      f (get_or xs i d) ≡ g (get_or ys i e) → map f (take (i + 1) xs) ≡ map g (take (i + 1) ys)
  alike-more xs ys i d e within there same next =
      ap (map f) (take_more xs i d within)
      ∙ (map-append f (take i xs) (get_or xs i d ∷ [])
      ∙ ((λ j. same j ++ next j ∷ [])
      ∙ (sym (map-append g (take i ys) (get_or ys i e ∷ [])) ∙ sym (ap (map g) (take_more ys i e there)))))

  -- At the end all are.
  pub alike-all : (xs : List A) (ys : List B) (i : ℕ) → length xs ≤ i → length ys ≤ i → map f (take i xs) ≡ map g (take i ys) → map
      f xs ≡ map g ys
  alike-all xs ys i all both same = ap (map f) (sym (take_all i xs all)) ∙ (same ∙ ap (map g) (take_all i ys both))
