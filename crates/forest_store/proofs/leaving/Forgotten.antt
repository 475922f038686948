-- What is left once the nodes of a collection that are unkept are forgotten.
use Rattle.forest_store.proofs.Common.{IsLeftIn, ◌≡◌, ℕ, ◌==◌, true, false, inl, inr, Option, Some, None, List, map, refl, sym}
use Rattle.forest_store.proofs.Common.{subst, ◌∙◌, find, list_any, Table, node_at, NodeKey, same_key, both_ways, either_way}
use Rattle.forest_store.proofs.Common.{In-any, Node, CollectionRow, AreRising, IsStored, are_filed, collection_in, nodes_with, is_unkept}
use Rattle.forest_store.proofs.Common.{without_unkept_in, left_at, thin_in, thinned, unless_unkept, without_bare, arith}
use Rattle.forest_store.proofs.leaving.Thinning.{all_thinned-same, thinned-same}
use Rattle.forest_store.proofs.leaving.Tidying.{bare-kept, bare_others, none_others, over_others, thin_others, thinned_all, tidied_all}
use Rattle.forest_store.proofs.Basics.{all-In, filed_found, found_id, in_nodes, map-same}

-- ---- where nothing is unkept, and where there is no such collection

-- rows whose keys the table has stay as they are
pub thin_filed : (t : Table Node) (id : ℕ) (ss : List CollectionRow) → are_filed t ss ≡ true → thin_in t id ss ≡ ss
thin_filed t id ss filed = grind (arith, map-same, thinned-same, all-In)

-- where no node of the keys is unkept, each key finds what is left
pub tidy_left : (t : Table Node) (keys : List NodeKey) → list_any is_unkept (nodes_with t keys) ≡ false → (k : NodeKey) →
    node_at t k ≡ left_at t keys k
tidy_left t keys none k = elim (either_way (list_any (same_key k) keys)) [
  | inl there ↦ rw there (from there (node_at t k) refl)
  | inr other ↦ rw other refl
]
  where
    -- by cases: no node is left, or it is one of those that are not over
    from : list_any (same_key k) keys ≡ true → (o : Option Node) → node_at t k ≡ o → o ≡ unless_unkept o
    from there None is = refl
    from there (Some n) is = elim (either_way (is_unkept n)) [
      | inl over ↦ both_ways (list_any is_unkept (nodes_with t keys)) (In-any is_unkept (nodes_with t keys) n (in_nodes t keys k n is there)
          over) none
      | inr e ↦ rw e refl
    ]

module _ {t now : Table Node} {id : ℕ} {ss : List CollectionRow} (ok : IsStored t ss) (left : IsLeftIn t now id ss) where
  -- thinning this collection thins all, as the table has the keys of the others
  thinned_is : thin_in now id ss ≡ map (thinned now) ss
  thinned_is = by _ refl
    where
      -- without a row of this id nothing is thinned; with one, thinning it thins all rows
      by : (o : Option CollectionRow) → find (λ (x : CollectionRow). x.id == id) ss ≡ o → thin_in now id ss ≡ map (thinned now) ss
      by None is = subst (λ (x : Table Node). thin_in x id ss ≡ map (thinned x) ss) (sym (left.none is))
          (thin_filed t id ss ok.filed ∙ sym (all_thinned-same t ss ok.filed))
      by (Some s) is = rw (← (found_id id ss s is))
          (thinned_all t now s (filed_found t id ss ok.filed s is) (left.look s is) ss ok.filed)

  -- the ids rise once the keys are dropped
  pub forgotten_rising : IsStored now (map (thinned now) ss) → AreRising (thin_in now id ss)
  forgotten_rising kept = rw thinned_is kept.rising

  -- the collections
  pub forgotten_collections : map (collection_in now) (without_bare id (thin_in now id ss))
      ≡ without_unkept_in id (map (collection_in t) ss)
  forgotten_collections = by _ refl
    where
      by : (o : Option CollectionRow) → find (λ (x : CollectionRow). x.id == id) ss ≡ o →
          map (collection_in now) (without_bare id (thin_in now id ss)) ≡ without_unkept_in id (map (collection_in t) ss)
      by None is = grind (arith, thin_others, none_others, bare_others, over_others)
      by (Some s) is =
          let own : s.id ≡ id = found_id _ _ s is in
          rw (← own) (tidied_all t now s (filed_found t id ss ok.filed s is) (left.look s is) _ ok.rising ok.filed
          (subst (λ (i : ℕ). find (λ (x : CollectionRow). x.id == i) ss ≡ Some s) (sym own) is))

  -- all that holds of forests holds in the end
  pub forgotten_kept : IsStored now (map (thinned now) ss) → IsStored now (without_bare id (thin_in now id ss))
  forgotten_kept kept = bare-kept _ id _ (rw thinned_is kept)
