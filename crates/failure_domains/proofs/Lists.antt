-- Lists: what a flat_map has, and elements that stay apart in an append.
use Rattle.failure_domains.proofs.Common.{All-append, AllPairs, Contains, Contains-get_or, List, [], arith, flat_map, get_or, inl, inr}
use Rattle.failure_domains.proofs.Common.{refl, suc, zero, ◌++◌, ◌∷◌, ◌≡◌, ◌⊎◌}
use Rattle.std.proofs.lemmas.List.Elements.{Contains-append_left, Contains-append_right, Contains-append_cases}
use Rattle.std.proofs.lemmas.List.Kept.{AllPairs-cons}

module _ {X : Type 0} where
  -- the head of a list is in it, and so is what is in its tail
  pub Contains-head : (x : X) (rest : List X) → Contains (x ∷ rest) x
  Contains-head x rest = (zero, omega arith, refl)

  -- an element of the tail stands one place further in the whole list
  pub Contains-tail : (x y : X) (rest : List X) → Contains rest y → Contains (x ∷ rest) y
  Contains-tail x y rest there = (suc there.0, omega (arith, there.1), there.2)

  -- and nothing else is
  pub Contains-cases : (x y : X) (rest : List X) → Contains (x ∷ rest) y → (x ≡ y) ⊎ Contains rest y
  Contains-cases x y rest (zero, within, found) = inl found
  Contains-cases x y rest (suc k, within, found) = inr (k, omega arith, found)

  -- what stands apart in two lists and across them stands apart in both together
  pub AllPairs-append : (R : X → X → Type 0) (xs ys : List X) → AllPairs R xs → AllPairs R ys →
      ((x y : X) → Contains xs x → Contains ys y → R x y) → AllPairs R (xs ++ ys)
  AllPairs-append R [] ys first second across = second
  AllPairs-append R (x ∷ xs) ys first second across =
      AllPairs-cons R x (xs ++ ys)
      (All-append (R x) xs ys
      (λ k d within. first 0 (suc k) d (omega arith) (omega arith))
      (λ k d within. across x (get_or ys k d) (Contains-head x xs) (Contains-get_or ys k d within)))
      (AllPairs-append R xs ys
      (λ i j d before within. first (suc i) (suc j) d (omega arith) (omega arith))
      second
      (λ a b in_xs in_ys. across a b (Contains-tail x a xs in_xs) in_ys))

  module _ {Y : Type 0} (f : X → List Y) where
    -- what f gives of an element is in the flat_map
    pub Contains-flat_map : (xs : List X) (x : X) (y : Y) → Contains xs x → Contains (f x) y →
        Contains (flat_map f xs) y
    Contains-flat_map [] x y there given = absurd (omega (arith, there.1))
    Contains-flat_map (head ∷ rest) x y there given =
        elim (Contains-cases head x rest there) [
          | inl same ↦ Contains-append_left (f head) (flat_map f rest) y (rw same given)
          | inr later ↦ Contains-append_right (f head) (flat_map f rest) y (Contains-flat_map rest x y later given)
        ]

    -- what is in the flat_map is what f gives of some element
    pub flat_map_source : (xs : List X) (y : Y) → Contains (flat_map f xs) y →
        (x : X) × Contains xs x × Contains (f x) y
    flat_map_source [] y there = absurd (omega (arith, there.1))
    flat_map_source (head ∷ rest) y there =
        elim (Contains-append_cases (f head) (flat_map f rest) y there) [
          | inl given ↦ (head, Contains-head head rest, given)
          | inr later ↦
              let source : (x : X) × Contains rest x × Contains (f x) y = flat_map_source rest y later in
              (source.0, Contains-tail head source.0 rest source.1, source.2)
        ]
