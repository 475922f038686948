-- The members of a collection with one more node.
use Rattle.forest_store.proofs.Common.{◌≡◌, refl, ap, ◌∙◌, false, List, [], ◌∷◌, ◌++◌, reverse, Some, list_any, NodeKey}
use Rattle.forest_store.proofs.Common.{same_key, In, In-map, In-any, Node, is_of, members_of, map-append, reverse-append}
use Rattle.forest_store.proofs.Common.{filter-append, Member, In-filter, map-In, above_among, member_of, same_key-comm, arith}

-- no node that is not gone has the key as its parent
abbrev pub HaveOthers : List Node → NodeKey → Type 0
HaveOthers nodes key = (n : Node) → In n nodes → n.gone ≡ false → n.parent ≡ Some key → ⊥

module _ (nodes : List Node) (b : Node) (fresh : list_any (is_of b.key) nodes ≡ false) where
  -- the nodes with the newborn
  abbrev more : List Node
  more = nodes ++ b ∷ []

  -- each other has another key
  other : (n : Node) → In n nodes → same_key b.key n.key ≡ false
  other n on = grind (arith, In-any, same_key-comm)

  -- nothing else lies above it than before
  above_same : (n : Node) → In n nodes → above_among (reverse more) n.key ≡ above_among (reverse nodes) n.key
  above_same n on = ap (λ (ns : List Node). above_among ns n.key) (reverse-append nodes (b ∷ [])) ∙ (rw (other n on) refl)

  -- the newborn comes last among those that are left, and the others stay
  pub members_more : b.gone ≡ false → members_of more ≡ members_of nodes ++ member_of more b ∷ []
  members_more here = grind (arith, filter-append, map-append, map-In, above_same, In-filter)

  -- none of the others is its child
  pub childless : HaveOthers nodes b.key → (m : Member) → In m (members_of nodes) → m.parent ≡ Some b.key → ⊥
  childless others m on up = grind (arith, In-map, In-filter)
