-- A row that is put in the place of another with its id.
use Rattle.forest_steps.proofs.Common.{◌≡◌, ◌≢◌, ◌<◌, ◌==◌, nat_lt, refl, ap, ◌∙◌, true, false, inl, inr, List, []}
use Rattle.forest_steps.proofs.Common.{◌∷◌, map, Some, arith, eq-eqb, eqb-false, eqb-true, AllByRecursion, find}
use Rattle.forest_steps.proofs.Common.{In, In-find, either_way, Table, Node, Unit, AreUnits, AreRising, CollectionRow}
use Rattle.forest_steps.proofs.Common.{collection_in, nodes_with, put_row, put, le-ltb, map-In, HasUnits, all_at}

-- ---- one row in the place of another with its id

module _ (s new : CollectionRow) (same : new.id ≡ s.id) where
  -- where it stands
  here_is : (x : CollectionRow) → (x.id == s.id) ≡ true → (x.id == new.id) ≡ true
  here_is x e = ap (λ i. x.id == i) same ∙ e

  -- the two rows have one id
  not_here : (x : CollectionRow) → (x.id == s.id) ≡ false → (x.id == new.id) ≡ false
  not_here x e = ap (λ i. x.id == i) same ∙ e

  -- a row before it has a smaller id
  before_it : (x : CollectionRow) (xs : List CollectionRow) → AllByRecursion (λ (later : CollectionRow). x.id < later.id) xs →
      find (λ (y : CollectionRow). y.id == s.id) xs ≡ Some s → nat_lt new.id x.id ≡ false
  before_it x xs above on =
      let less : x.id < s.id = all_at _ xs above s (In-find _ xs s on).0 in
      le-ltb new.id x.id (omega (arith, less, same))

  -- by induction: the row stands in the place of the one with its id
  pub found_there : (ss : List CollectionRow) → AreRising ss → find (λ (x : CollectionRow). x.id == s.id) ss ≡ Some s →
      find (λ (x : CollectionRow). x.id == new.id) (put_row new ss) ≡ Some new
  found_there [] rising found = cc
  found_there (x ∷ xs) rising found = elim (either_way (x.id == s.id)) [
    | inl e ↦
        rw (here_is x e, eq-eqb _ _ refl) refl
    | inr e ↦
        let on : find (λ (y : CollectionRow). y.id == s.id) xs ≡ Some s = rw e at found in
        let other = not_here x e in
        rw (other, before_it x xs rising.0 on, other) (found_there xs rising.1 on)
  ]

  -- by induction: each other row stays
  pub all_there : (P : CollectionRow → Type 0) (ss : List CollectionRow) → AreRising ss →
      find (λ (x : CollectionRow). x.id == s.id) ss ≡ Some s → P new →
      AllByRecursion P ss → AllByRecursion P (put_row new ss)
  all_there P [] rising found own all = cc
  all_there P (x ∷ xs) rising found own all = elim (either_way (x.id == s.id)) [
    | inl e ↦ let is = here_is x e in rw is (own, all.1)
    | inr e ↦
        let on : find (λ (y : CollectionRow). y.id == s.id) xs ≡ Some s = rw e at found in
        rw (not_here x e, before_it x xs rising.0 on) (all.0, all_there P xs rising.1 on own all.1)
  ]

  -- by induction: each other collection stays
  pub units_there : (us : List Unit) (t : Table Node) (ss : List CollectionRow) → AreRising ss →
      find (λ (x : CollectionRow). x.id == s.id) ss ≡ Some s → HasUnits us (nodes_with t new.keys) →
      AreUnits us (map (collection_in t) ss) → AreUnits us (map (collection_in t) (put_row new ss))
  units_there us t [] rising found own all = cc
  units_there us t (x ∷ xs) rising found own all = elim (either_way (x.id == s.id)) [
    | inl e ↦ let is = here_is x e in rw is (own, all.1)
    | inr e ↦
        let on : find (λ (y : CollectionRow). y.id == s.id) xs ≡ Some s = rw e at found in
        rw (not_here x e, before_it x xs rising.0 on) (all.0, units_there us t xs rising.1 on own all.1)
  ]

  -- the others stay
  pub put_there : (t now : Table Node) (ss : List CollectionRow) → AreRising ss → find (λ (x : CollectionRow). x.id == s.id) ss ≡ Some s →
      ((x : CollectionRow) → In x ss → x.id ≢ s.id → collection_in now x ≡ collection_in t x) →
      map (collection_in now) (put_row new ss) ≡ put (collection_in now new) (map (collection_in t) ss)
  put_there t now [] rising found each = cc
  put_there t now (x ∷ xs) rising found each = elim (either_way (x.id == s.id)) [
    | inl e ↦
        let is = here_is x e in
        let own : x.id ≡ s.id = eqb-true _ _ e in
        let rest = map-In _ _ xs (λ y on. each y (inr on) (λ one.
        let above : x.id < y.id = all_at _ xs rising.0 y on in
        omega (arith, above, own, one))) in
        rw is (λ i. collection_in now new ∷ rest i)
    | inr e ↦
        let on : find (λ (y : CollectionRow). y.id == s.id) xs ≡ Some s = rw e at found in
        let first = each x (inl refl) (eqb-false x.id s.id e) in
        let rest = put_there t now xs rising.1 on (λ y there. each y (inr there)) in
        rw (not_here x e, before_it x xs rising.0 on) (λ i. first i ∷ rest i)
  ]
