-- A list that is a top and what a function gives of each of its keys.
use Rattle.failure_domains.proofs.Common.{Contains, List, NodeKey, flat_map, inl, inr, subst, sym, ◌∷◌, ◌≡◌, ◌⊎◌}
use Rattle.failure_domains.proofs.Lists.{Contains-head, Contains-tail, Contains-cases, Contains-flat_map, flat_map_source}

module _ (down : NodeKey → List NodeKey) (top : NodeKey) (keys : List NodeKey) (whole : keys ≡ top ∷ flat_map down keys) where
  -- the top is a key
  pub begins : Contains keys top
  begins = subst (λ ks. Contains ks top) (sym whole) (Contains-head top (flat_map down keys))

  -- what is given of a key is a key
  pub brings : (above child : NodeKey) → Contains keys above → Contains (down above) child → Contains keys child
  brings above child there given =
      subst (λ ks. Contains ks child) (sym whole)
      (Contains-tail top child (flat_map down keys) (Contains-flat_map down keys above child there given))

  -- a key is the top, or is given of a key
  pub source : (key : NodeKey) → Contains keys key →
      (top ≡ key) ⊎ ((above : NodeKey) × Contains keys above × Contains (down above) key)
  source key there =
      elim (Contains-cases top key (flat_map down keys) (subst (λ ks. Contains ks key) whole there)) [
        | inl first ↦ inl first
        | inr brought ↦ inr (flat_map_source down keys key brought)
      ]
