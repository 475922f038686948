-- What a change of the parent's row does to the row of each key.
use Rattle.node_table.proofs.Common.{Bool, IsSome, NodeKey, None, Option, Row, Some, [], ap, at_parent, children_in, false, if◌then◌else◌}
use Rattle.node_table.proofs.Common.{inl, inr, option_map, parent_in, refl, same_key, true, with_child, without_child, without_parent}
use Rattle.node_table.proofs.Common.{◌++◌, ◌∷◌, ◌≡◌, ◌≢◌, ◌⊎◌}
use Rattle.node_table.proofs.Keys.{key_cases, same_key-equal, same_key-apart}
use Rattle.node_table.proofs.Lists.{without}

-- a key is the parent or it is not
pub parent_cases : (parent : Option NodeKey) (key : NodeKey) → (parent ≡ Some key) ⊎ (parent ≢ Some key)
parent_cases None key = inr (λ same. absurd (cc))
parent_cases (Some other) key =
    elim (key_cases other key) [ inl same ↦ inl (ap Some same) | inr differ ↦ inr (λ same. differ (cc)) ]

module _ {N : Type 0} where
  -- the parent's row changes
  pub map-parent : (parent : Option NodeKey) (f : Row N → Row N) (key : NodeKey) (o : Option (Row N)) → parent ≡ Some key →
      option_map (at_parent parent f key) o ≡ option_map f o
  map-parent None f key o same = absurd (cc)
  map-parent (Some other) f key None same = refl
  map-parent (Some other) f key (Some row) same = let is : other ≡ key = cc in rw (same_key-equal other key is) refl

  -- every other row stays
  pub map-stranger : (parent : Option NodeKey) (f : Row N → Row N) (key : NodeKey) (o : Option (Row N)) → parent ≢ Some key →
      option_map (at_parent parent f key) o ≡ o
  map-stranger None f key None differ = refl
  map-stranger None f key (Some row) differ = refl
  map-stranger (Some other) f key None differ = refl
  map-stranger (Some other) f key (Some row) differ = rw (same_key-apart other key (λ same. differ (ap Some same))) refl

  -- a change under a test keeps the parent, if the change does
  up-through : (b : Bool) (f : Row N → Row N) (row : Row N) → (f row).parent ≡ row.parent → (if b then f row else row).parent ≡ row.parent
  up-through true f row keeps = keeps
  up-through false f row keeps = refl

  -- a change under a test keeps the children, if the change does
  down-through : (b : Bool) (f : Row N → Row N) (row : Row N) → (f row).children ≡ row.children →
      (if b then f row else row).children ≡ row.children
  down-through true f row keeps = keeps
  down-through false f row keeps = refl

  -- a change that keeps each row's parent keeps all links up
  pub map-up : (parent : Option NodeKey) (f : Row N → Row N) (key : NodeKey) (o : Option (Row N)) →
      ((row : Row N) → (f row).parent ≡ row.parent) → parent_in (option_map (at_parent parent f key) o) ≡ parent_in o
  map-up parent f key None keeps = refl
  map-up None f key (Some row) keeps = refl
  map-up (Some other) f key (Some row) keeps = up-through (same_key other key) f row (keeps row)

  -- a change that keeps each row's children keeps all links down
  pub map-down : (parent : Option NodeKey) (f : Row N → Row N) (key : NodeKey) (o : Option (Row N)) →
      ((row : Row N) → (f row).children ≡ row.children) → children_in (option_map (at_parent parent f key) o) ≡ children_in o
  map-down parent f key None keeps = refl
  map-down None f key (Some row) keeps = refl
  map-down (Some other) f key (Some row) keeps = down-through (same_key other key) f row (keeps row)

  -- a row that is there has the new child last
  pub children-with : (child : NodeKey) (o : Option (Row N)) → IsSome o →
      children_in (option_map (with_child child) o) ≡ children_in o ++ child ∷ []
  children-with child None there = absurd (cc)
  children-with child (Some row) there = refl

  -- a row has the children but this one
  pub children-without : (child : NodeKey) (o : Option (Row N)) →
      children_in (option_map (without_child child) o) ≡ without child (children_in o)
  children-without child None = refl
  children-without child (Some row) = refl

  -- a row without its parent has none
  pub parent-without : (o : Option (Row N)) → parent_in (option_map without_parent o) ≡ None
  parent-without None = refl
  parent-without (Some row) = refl

  -- a row without its parent has its children
  pub children-kept : (o : Option (Row N)) → children_in (option_map without_parent o) ≡ children_in o
  children-kept None = refl
  children-kept (Some row) = refl
