-- A view, put together item by item.
use Rattle.std.proofs.Common.{◌≡◌, ℕ, ◌+◌, ◌<◌, ◌≤◌, List, ◌++◌, length, get_or, take, append_assoc, sym, ap, ◌∙◌}
use Rattle.std.specs.List.{flat_map}
use Rattle.std.proofs.lemmas.List.{flat_map_more, take_all, take_more}

module _ {X : Type 0} (f : X → List ℕ) (xs : List X) (i : ℕ) (start text : List ℕ) (so_far : text ≡ start ++ flat_map f (take i xs)) where
  -- one more item is shown
  pub shown-more : (d : X) (new : List ℕ) → i < length xs → new ≡ text ++ f (get_or xs i d) →
      new ≡ start ++ flat_map f (take (i + 1) xs)
  shown-more d new within more = more ∙ ap (λ t. t ++ f (get_or xs i d)) so_far
      ∙ flat_map_more f start (take i xs) (get_or xs i d)
      ∙ ap (λ ys. start ++ flat_map f ys) (sym (take_more xs i d within))

  -- all items are shown, behind the view's name
  pub shown-all : (old name : List ℕ) → length xs ≤ i → start ≡ old ++ name → text ≡ old ++ (name ++ flat_map f xs)
  shown-all old name past named = so_far ∙ ap (λ ys. start ++ flat_map f ys) (take_all i xs past)
      ∙ ap (λ t. t ++ flat_map f xs) named ∙ append_assoc old name (flat_map f xs)
