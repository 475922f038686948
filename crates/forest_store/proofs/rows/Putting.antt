-- A row that is put in its place among others.
use Rattle.forest_store.proofs.Common.{◌≡◌, ℕ, ◌<◌, ◌==◌, nat_lt, true, false, not, List, [], ◌∷◌, ◌++◌, map, refl, sym, subst, arith}
use Rattle.forest_store.proofs.Common.{list_all, filter, AllByRecursion, lt-ltb, eq-eqb, eqb-true, eqb-false, NodeKey, HeldBuffer, Table}
use Rattle.forest_store.proofs.Common.{Node, Collection, CollectionRow, AreRising, put_row}
use Rattle.forest_store.proofs.Common.{collection_in, all_keys, are_filed, is_filed, put}
use Rattle.forest_store.proofs.Common.{flat_map, le-ltb, ne_eqb, cases_lt, cases_eq, ltb-true, ltb-false, map-append, pages_in}
use Rattle.forest_store.proofs.lists.SameIntervals.{Alike, Alike-refl, Alike-trans, Alike-front, Alike-shift, less_of}

-- three ways in which one number lies to another
pub cases_place : (a b : ℕ) → (P : Type 0) → (((a == b) ≡ true) → P) → (((a == b) ≡ false) → (nat_lt b a ≡ true) → P) →
    (((a == b) ≡ false) → (nat_lt b a ≡ false) → P) → P
cases_place a b P same above below = grind (arith, cases_eq, eq-eqb, cases_lt, ne_eqb, lt-ltb, le-ltb)

-- ids above another are above a smaller one
pub above-weaker : (low id : ℕ) (ss : List CollectionRow) → low < id → AllByRecursion (λ (later : CollectionRow). id < later.id) ss →
    AllByRecursion (λ (later : CollectionRow). low < later.id) ss
above-weaker low id [] less all = tt
above-weaker low id (s ∷ ss) less all = (omega (arith, all.0), above-weaker low id ss less all.1)

-- one more above
above-put : (low : ℕ) (new : CollectionRow) (ss : List CollectionRow) → low < new.id →
    AllByRecursion (λ (later : CollectionRow). low < later.id) ss →
    AllByRecursion (λ (later : CollectionRow). low < later.id) (put_row new ss)
above-put low new [] less all = (less, tt)
above-put low new (s ∷ ss) less all = grind (arith, above-put low new ss less all.1, cases_place)

-- the ids still rise
pub rising-put : (new : CollectionRow) (ss : List CollectionRow) → AreRising ss → AreRising (put_row new ss)
rising-put new [] rising = (tt, tt)
rising-put new (s ∷ ss) rising = cases_place _ _ _
    (λ same. rw same (
      rw (← (eqb-true s.id new.id same)) rising.0,
      rising.1,
    ))
    (λ other above. let less : new.id < s.id = ltb-true _ _ above in
    rw (other, above) ((less, above-weaker _ _ _ less rising.0), rising))
    (λ other below. let less : s.id < new.id = less_of _ _ (λ same. eqb-false s.id new.id other (sym same)) (ltb-false _ _ below) in
    rw (other, below) (above-put _ _ _ less rising.0, rising-put new ss rising.1))

-- the collections are put so
pub put-map : (t : Table Node) (new : CollectionRow) (ss : List CollectionRow) →
    map (collection_in t) (put_row new ss) ≡ put (collection_in t new) (map (collection_in t) ss)
put-map t new [] = refl
put-map t new (s ∷ ss) = grind (arith, put-map t new ss, cases_place)

-- two rows of one id with the same keys give the same keys
pub keys-put : (one other : CollectionRow) (ss : List CollectionRow) → one.id ≡ other.id → one.keys ≡ other.keys →
    all_keys (put_row one ss) ≡ all_keys (put_row other ss)
keys-put one other [] ids keys = rw keys refl
keys-put one other (s ∷ ss) ids keys = grind (arith, keys-put one other ss ids keys, cases_place)

-- what two tables that file the same say of all
pub filed-same : (t now : Table Node) → ((id : ℕ) (key : NodeKey) → is_filed now id key ≡ is_filed t id key) → (ss : List CollectionRow) →
    are_filed now ss ≡ are_filed t ss
filed-same t now each ss = λ i. list_all (λ (s : CollectionRow). list_all (λ key. each s.id key i) s.keys) ss

-- two rows of one id with the same keys are filed alike
pub filed-put : (t : Table Node) (one other : CollectionRow) (ss : List CollectionRow) → one.id ≡ other.id → one.keys ≡ other.keys →
    are_filed t (put_row one ss) ≡ are_filed t (put_row other ss)
filed-put t one other [] ids keys = rw (ids, keys) refl
filed-put t one other (s ∷ ss) ids keys = grind (arith, filed-put t one other ss ids keys, cases_place)

-- ---- pages

-- the pages of collections are those of the buffers that hold any
pub pages_held : (cs : List Collection) → map (λ (h : HeldBuffer). h.pages) (flat_map (λ (c : Collection). c.held) cs)
    ≡ flat_map pages_in cs
pages_held [] = refl
pages_held (c ∷ cs) = grind (arith, pages_held cs, map-append)

-- collections of greater ids are others
others-above : (t : Table Node) (id : ℕ) (ss : List CollectionRow) → AllByRecursion (λ (later : CollectionRow). id < later.id) ss →
    filter (λ (c : Collection). not (c.id == id)) (map (collection_in t) ss) ≡ map (collection_in t) ss
others-above t id [] all = refl
others-above t id (s ∷ ss) all = grind (arith, others-above t id ss all.1, ne_eqb)

-- the pages of a collection that is put are its own and those of the others
pub pages-put : (t : Table Node) (c : Collection) (ss : List CollectionRow) → AreRising ss →
    Alike (flat_map pages_in (put c (map (collection_in t) ss))) (pages_in c ++ flat_map pages_in (filter (λ (d : Collection).
    not (d.id == c.id)) (map (collection_in t) ss)))
pages-put t c [] rising = Alike-refl _
pages-put t c (s ∷ ss) rising = cases_place _ _ _
    (λ same. rw (
      same,
      others-above t _ _
          (subst (λ (id : ℕ). AllByRecursion (λ (later : CollectionRow). id < later.id) ss) (eqb-true s.id c.id same) rising.0),
    ) (Alike-refl _))
    (λ other above. rw (other, above, others-above t _ _ (above-weaker _ _ _ (ltb-true _ _ above) rising.0)) (Alike-refl _))
    (λ other below. rw (other, below)
    (Alike-trans _ _ _ (Alike-front _ _ _ (pages-put t c ss rising.1))
    (Alike-shift (pages_in (collection_in t s)) (pages_in c) _)))
