-- A collection of a state follows the marks that the state shows, and one more event.
use Rattle.core_state.proofs.Common.{Birth, Bool, Bound, Buffers, Collection, Grows, HeldBuffer, In, In-any, In-filter, In-list_any}
use Rattle.core_state.proofs.Common.{In-map, Interval, IsAfter, List, Node, None, Option, Some, State, Timeline, [], all_held, ap, arith}
use Rattle.core_state.proofs.Common.{beside, birth_of_collection, births_in, both_tests, both_ways, buffers_of, collection_after}
use Rattle.core_state.proofs.Common.{collection_or_new, either_way, eqb-true, events, false_if, filter, filter-In, filter-all}
use Rattle.core_state.proofs.Common.{filter-append, filter-none, flat_map, flat_map-map, gone, held, held_after, home, inl, inr, is_kept}
use Rattle.core_state.proofs.Common.{is_kept_collection, is_some, is_unkept, kept_ids, list_any, map, map-append, node_after, nodes_after}
use Rattle.core_state.proofs.Common.{not, or_left, ordered, pages_in, placed, placed_given, refl, still_out, subst, sym, true, ℕ, ◌++◌}
use Rattle.core_state.proofs.Common.{◌<◌, ◌==◌, ◌∙◌, ◌∷◌, ◌≡◌, ◌≤◌}
use Rattle.history_laws.proofs.DoomLaws.{buffers_early}
use Rattle.core_state.proofs.collections.MarksApart.{is_beside, pages_beside}
use Rattle.core_state.proofs.nodes.Ancestors.{Keeps, nodes_kept}
use Rattle.core_state.proofs.theorem.Follows.{Matches}
use Rattle.core_state.proofs.lists.Reorderings.{Mixed, In-mixed, In-mixed_back, mixed_filter, mixed_map}
use Rattle.core_state.proofs.views.Nodes.{collection_kept, collection_is, not_unkept}
use Rattle.core_state.proofs.views.Held.{mixed_held}

-- ---- pages

-- lists of the same elements pass the same tests
any-mixed : {A : Type 0} (test : A → Bool) (xs ys : List A) → Mixed xs ys → list_any test ys ≡ list_any test xs
any-mixed test xs ys m = both_tests _ _
    (λ h. let a = In-list_any test ys h in In-any test xs a.0 (In-mixed xs ys a.0 m a.1) a.2)
    (λ h. let a = In-list_any test xs h in In-any test ys a.0 (In-mixed_back xs ys a.0 m a.1) a.2)

-- the pages of the other collections are those of buffers of others
beside_ids : (pool : ℕ) (marks : Timeline) (id : ℕ) (ks : List ℕ) →
    flat_map pages_in (filter (λ (c : Collection). not (c.id == id)) (map (collection_after pool marks) ks)) ≡ map (λ (h : HeldBuffer).
    h.pages) (filter (is_beside id) (flat_map (held_after pool marks) ks))
beside_ids pool marks id [] = refl
beside_ids pool marks id (k ∷ ks) =
    let page : HeldBuffer → Interval = λ (h : HeldBuffer). h.pages in
    let rest = beside_ids pool marks id ks in
    let here : (h : HeldBuffer) → In h (held_after pool marks k) → is_beside id h ≡ not (k == id) =
    λ h on. ap (λ (n : ℕ). not (n == id)) (eqb-true h.buffer.collection k (In-filter (λ (x : HeldBuffer).
    x.buffer.collection == k) (held pool marks) h on).1) in
    let split : map page (filter (is_beside id) (held_after pool marks k ++ flat_map (held_after pool marks) ks))
    ≡ map page (filter (is_beside id) (held_after pool marks k)) ++ map page (filter (is_beside id) (flat_map (held_after pool marks) ks)) =
    ap (map page) (filter-append (is_beside id) (held_after pool marks k) (flat_map (held_after pool marks) ks))
    ∙ map-append page (filter (is_beside id) (held_after pool marks k)) (filter (is_beside id) (flat_map (held_after pool marks) ks)) in
    elim (either_way (k == id)) [
      | inl e ↦
          let none : filter (is_beside id) (held_after pool marks k) ≡ [] =
          filter-none (is_beside id) (held_after pool marks k) (λ h on. here h on ∙ ap not e) in
          rw e (rest ∙ sym (split ∙ ap (λ (l : List HeldBuffer).
          map page l ++ map page (filter (is_beside id) (flat_map (held_after pool marks) ks))) none))
      | inr e ↦
          let all : filter (is_beside id) (held_after pool marks k) ≡ held_after pool marks k =
          filter-all (is_beside id) (held_after pool marks k) (λ h on. here h on ∙ ap not e) in
          rw e (ap (λ (l : List Interval). map page (held_after pool marks k) ++ l) rest
          ∙ sym (split ∙ ap (λ (l : List HeldBuffer). map page l ++ map page (filter (is_beside id) (flat_map (held_after pool marks) ks)))
          all))
    ]

module _ (s : State) (marks : Timeline) (shown : IsAfter s marks) (limits : Bound) (grown : Grows s.pool limits [] marks) where
  -- the others' pages are those that the marks tell, in whatever order
  pub beside_same : (id : ℕ) (test : Interval → Bool) → list_any test (beside s.forest id) ≡ list_any test (pages_beside s.pool marks id)
  beside_same id test =
      let page : HeldBuffer → Interval = λ (h : HeldBuffer). h.pages in
      let all : all_held s.forest ≡ flat_map (held_after s.pool marks) (kept_ids marks) =
      ap (flat_map (λ (c : Collection). c.held)) shown.collections
      ∙ flat_map-map (λ (c : Collection). c.held) (collection_after s.pool marks) (kept_ids marks) in
      let mixed : Mixed (pages_beside s.pool marks id)
      (map page (filter (is_beside id) (flat_map (held_after s.pool marks) (kept_ids marks)))) =
      mixed_map page (filter (is_beside id) (held s.pool marks))
      (filter (is_beside id) (flat_map (held_after s.pool marks) (kept_ids marks)))
      (mixed_filter (is_beside id) (held s.pool marks) (flat_map (held_after s.pool marks) (kept_ids marks))
      (subst (λ (l : List HeldBuffer).
      Mixed (held s.pool marks) l) all (mixed_held s marks shown limits grown))) in
      ap (λ (cs : List Collection). list_any test (flat_map pages_in (filter (λ (c : Collection). not (c.id == id)) cs))) shown.collections
      ∙ (ap (list_any test) (beside_ids s.pool marks id (kept_ids marks)) ∙ any-mixed test (pages_beside s.pool marks id) _ mixed)

  -- the nodes of a collection that the state has are those that are kept
  pub nodes_same : (id : ℕ) → (collection_after s.pool marks id).nodes ≡ nodes_kept (is_kept marks) marks id
  nodes_same id = filter-In (λ n. not (is_unkept n)) (λ (n : Node). is_kept marks n.key) (nodes_after marks id) (λ n on.
      let m = In-map (node_after marks) (births_in marks id) n on in
      ap (λ (x : Node). not (is_unkept x)) m.2 ∙ (not_unkept marks m.0 ∙ ap (λ (x : Node). is_kept marks x.key) (sym m.2)))

  -- nothing is forgotten that is not gone
  pub keeps_left : Keeps (is_kept marks) marks
  keeps_left node here = or_left (not (gone marks node)) _ (ap not here)

  -- no page is held before there are buffers
  none_held : (id : ℕ) → buffers_of marks id ≡ None → held_after s.pool marks id ≡ []
  none_held id none = filter-none (λ (h : HeldBuffer). h.buffer.collection == id) (held s.pool marks) (λ h on.
      false_if (h.buffer.collection == id) (λ e.
      let there : In h (placed s.pool marks) = (In-filter (λ (x : HeldBuffer). not (home marks x.buffer)) (placed s.pool marks) h on).0 in
      both_ways (is_some (buffers_of marks h.buffer.collection)) (placed_given s.pool marks h there) (ap (λ (k : ℕ).
      is_some (buffers_of marks k)) (eqb-true h.buffer.collection id e) ∙ ap is_some none)))

  -- what is held is not home
  out_still : (id : ℕ) → still_out marks (held_after s.pool marks id) ≡ held_after s.pool marks id
  out_still id = filter-all (λ (h : HeldBuffer). not (home marks h.buffer)) (held_after s.pool marks id) (λ h on.
      let there : In h (held s.pool marks) = (In-filter (λ (x : HeldBuffer). x.buffer.collection == id) (held s.pool marks) h on).0 in
      (In-filter (λ (x : HeldBuffer). not (home marks x.buffer)) (placed s.pool marks) h there).1)

  -- each collection follows the marks, kept or not
  pub follows : (id : ℕ) → Matches s.pool (is_kept marks) marks (beside s.forest id) (collection_after s.pool marks id)
  follows id = record {
    keeps = keeps_left;
    nodes = nodes_same id;
    buffers = refl;
    own = λ h on. eqb-true h.buffer.collection id (In-filter (λ (x : HeldBuffer). x.buffer.collection == id) (held s.pool marks) h on).1;
    none = none_held id;
    held = out_still id;
    beside = beside_same id;
  }

  -- a kept collection is that one
  pub there_or_new : (id : ℕ) → is_kept_collection marks id ≡ true → collection_or_new s.forest id ≡ collection_after s.pool marks id
  there_or_new id kept = rw (collection_kept s marks shown limits grown id kept) refl

  -- no node was born in a collection that is still to come
  none_born : (id : ℕ) → events marks < id → births_in marks id ≡ []
  none_born id late = empty (births_in marks id) (λ b on.
      let t = birth_of_collection marks id b on in
      let early : b.collection ≤ events marks = (ordered s.pool limits marks grown).early b t.0 in
      let is : b.collection ≡ id = eqb-true b.collection id t.1 in
      omega (arith, early, is, late))
    where
      empty : (bs : List Birth) → ((b : Birth) → In b bs → ⊥) → bs ≡ []
      empty [] none = refl
      empty (b ∷ bs) none = absurd (none b (inl refl))

  -- nor was it given buffers
  not_given : (id : ℕ) → events marks < id → buffers_of marks id ≡ None
  not_given id late = from (buffers_of marks id) refl
    where
      from : (o : Option Buffers) → buffers_of marks id ≡ o → o ≡ None
      from None e = refl
      from (Some b) e = let early : id ≤ events marks =
          buffers_early s.pool limits marks grown id (ap is_some e) in absurd (omega (arith, early, late))

  -- so it is empty
  pub still_empty : (id : ℕ) → events marks < id →
      collection_after s.pool marks id ≡ record { id = id; nodes = []; buffers = None; held = [] }
  still_empty id late = λ i. record {
    id = id;
    nodes = filter (λ n. not (is_unkept n)) (map (node_after marks) (none_born id late i));
    buffers = not_given id late i;
    held = none_held id (not_given id late) i;
  }

  -- a collection that is still to come is that one, too
  pub new_or_there : (id : ℕ) → events marks < id → collection_or_new s.forest id ≡ collection_after s.pool marks id
  new_or_there id late =
      elim (either_way (is_kept_collection marks id)) [
        | inl kept ↦ there_or_new id kept
        | inr lost ↦ rw (collection_is s marks shown limits grown id, lost) (sym (still_empty id late))
      ]
