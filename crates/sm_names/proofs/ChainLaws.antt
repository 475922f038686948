-- Chains of parents, and the top of one: the highest node that a failure propagates to.
use Rattle.std.proofs.Common.{◌≡◌, refl, Bool, true, false, cond, inl, inr, List, [], ◌∷◌, Option, Some, None, subst}
use Rattle.std.specs.List.{list_any}
use Rattle.sm_names.specs.declared.keys.NodeKey.{NodeKey}
use Rattle.sm_names.specs.Losses.{Reach, Up, Down, top}
use Rattle.sm_names.specs.Sameness.{same_key}
use Rattle.sm_names.proofs.ListLaws.{In}
use Rattle.sm_names.proofs.SamenessLaws.{either_way, same_key-true, same_key-refl, or_left, or_right}

-- each node of the list is the parent of the one before it, and the last one has none
abbrev pub IsChain : (NodeKey → Option NodeKey) → NodeKey → List NodeKey → Type 0
IsChain parent node [] = parent node ≡ None
IsChain parent node (above ∷ rest) = (parent node ≡ Some above) × IsChain parent above rest

module _ (parent : NodeKey → Option NodeKey) (blocks : NodeKey → Bool) (origin : NodeKey) where
  -- the top above a node of the reach is in the reach
  pub climbs : (node : NodeKey) (above : List NodeKey) → IsChain parent node above → Reach parent blocks origin node →
      Reach parent blocks origin (top blocks node above)
  climbs node [] chain r = r
  climbs node (p ∷ above) chain r =
      (elim (blocks node) as (λ (b : Bool). blocks node ≡ b → Reach parent blocks origin (cond b node (top blocks p above))) [
        | true ↦ λ e. r
        | false ↦ λ e. climbs p above chain.1 (Up node p r e chain.0)
      ]) refl

  -- a node below one of the reach is in the reach
  pub descends : (highest node : NodeKey) (above : List NodeKey) → IsChain parent node above → Reach parent blocks origin highest →
      list_any (same_key highest) (node ∷ above) ≡ true → Reach parent blocks origin node
  descends highest node [] chain r h =
      elim (either_way (same_key highest node)) [
        | inl e ↦ subst (λ (k : NodeKey). Reach parent blocks origin k) (same_key-true highest node e) r
        | inr e ↦ let no : false ≡ true = rw e at h in cc
      ]
  descends highest node (p ∷ above) chain r h =
      elim (either_way (same_key highest node)) [
        | inl e ↦ subst (λ (k : NodeKey). Reach parent blocks origin k) (same_key-true highest node e) r
        | inr e ↦ Down p node (descends highest p above chain.1 r (rw e at h)) chain.0
      ]

-- the top is the node or above it
pub top_on : (blocks : NodeKey → Bool) (node : NodeKey) (above : List NodeKey) →
    list_any (same_key (top blocks node above)) (node ∷ above) ≡ true
top_on blocks node [] = or_left _ _ (same_key-refl node)
top_on blocks node (p ∷ above) =
    elim (blocks node) as (λ (b : Bool). list_any (same_key (cond b node (top blocks p above))) (node ∷ p ∷ above) ≡ true) [
      | true ↦ or_left (same_key node node) _ (same_key-refl node)
      | false ↦ or_right (same_key (top blocks p above) node) _ (top_on blocks p above)
    ]

-- the top is the same where the tests agree along the line
pub top-same : (f g : NodeKey → Bool) (node : NodeKey) (above : List NodeKey) → ((k : NodeKey) → In k (node ∷ above) → f k ≡ g k) →
    top f node above ≡ top g node above
top-same f g node [] same = refl
top-same f g node (p ∷ above) same =
    let on : top f p above ≡ top g p above = top-same f g p above (λ k there. same k (inr there)) in
    let here : f node ≡ g node = same node (inl refl) in
    rw (here, on) refl
