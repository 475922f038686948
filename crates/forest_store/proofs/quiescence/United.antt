-- The nodes of a unit are of one unit still, whatever is changed or forced.
use Rattle.forest_store.proofs.Common.{◌≡◌, refl, ap, sym, ◌∙◌, Bool, true, ◌&&◌, inl, inr, List, [], ◌∷◌, ◌++◌, map}
use Rattle.forest_store.proofs.Common.{reverse, filter, list_all, In, and_both, and_left, and_right, either_way, all_on}
use Rattle.forest_store.proofs.Common.{Node, reverse-append, In-reverse, list_all-filter, are_united, shares_unit, arith}
use Rattle.forest_store.proofs.tables.KeptRoots.{filter-reverse_aux, map-reverse_aux}

-- what is kept of a node that stays in its unit
pub record KeepsUnit (f : Node → Node) : Type 0 where
  pub key : (n : Node) → (f n).key ≡ n.key
  pub parent : (n : Node) → (f n).parent ≡ n.parent
  pub attached : (n : Node) → (f n).attached ≡ n.attached
  pub head : (n : Node) → (f n).head ≡ n.head

module _ (f : Node → Node) (keeps : KeepsUnit f) where
  -- parent, attachment, key and head are kept, and sharing a unit is read from these
  shares_same : (n q : Node) → shares_unit (f n) (f q) ≡ shares_unit n q
  shares_same n q = grind arith

  -- by induction over the others
  shares_map : (n : Node) (qs : List Node) → list_all (shares_unit (f n)) (map f qs) ≡ list_all (shares_unit n) qs
  shares_map n [] = refl
  shares_map n (q ∷ qs) = λ i. shares_same n q i && shares_map n qs i

  -- by induction: each node shares its unit with those before it as it did
  united_map : (ns : List Node) → are_united (map f ns) ≡ are_united ns
  united_map [] = refl
  united_map (n ∷ ns) = λ i. shares_map n ns i && united_map ns i

  -- nodes that are changed so stay united
  pub united_mapped : (ns : List Node) → are_united (reverse (map f ns)) ≡ are_united (reverse ns)
  united_mapped ns = ap are_united (sym (map-reverse_aux f ns [])) ∙ united_map _

-- ---- some of the nodes

-- by induction: a node that passes shares its unit with fewer others
united_some : (p : Node → Bool) (ns : List Node) → are_united ns ≡ true → are_united (filter p ns) ≡ true
united_some p [] united = refl
united_some p (n ∷ ns) united =
    let rest : are_united (filter p ns) ≡ true = united_some p ns (and_right _ _ united) in
    elim (either_way (p n)) [
      | inl e ↦ rw e (and_both _ _ (list_all-filter _ p _ (and_left _ _ united)) rest)
      | inr e ↦ rw e rest
    ]

-- they are united still
pub united_filter : (p : Node → Bool) (ns : List Node) → are_united (reverse ns) ≡ true → are_united (reverse (filter p ns)) ≡ true
united_filter p ns united = ap are_united (sym (filter-reverse_aux p ns [])) ∙ united_some p _ united

-- ---- one more node

-- the new node stands first in the list turned round, and shares its unit with its parent
pub united_born : (ns : List Node) (b : Node) → ((q : Node) → In q ns → shares_unit b q ≡ true) → are_united (reverse ns) ≡ true →
    are_united (reverse (ns ++ b ∷ [])) ≡ true
united_born ns b shares united = grind (arith, reverse-append, all_on, In-reverse)
