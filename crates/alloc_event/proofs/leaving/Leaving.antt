-- What stays true of a forest without one node.
use Rattle.alloc_event.proofs.Common.{AllByRecursion, AreRising, Bool, CollectionRow, Entry, IsStored, List, Node, NodeKey, None, Option}
use Rattle.alloc_event.proofs.Common.{Some, Table, [], all_keys, and_left, and_right, ap, are_filed, arith, collection_in, cond}
use Rattle.alloc_event.proofs.Common.{either_way, eqb-false, eqb-true, false, false≢true, filter, get_or, get_or_default, inl, inr}
use Rattle.alloc_event.proofs.Common.{is_filed, is_of, is_some, length, list_all, looked-kept, map, node_at, none_in, not, option_map}
use Rattle.alloc_event.proofs.Common.{option_map_or, place_in, place_is, refl, row_found, row_of, rows_of, same_key, same_key-equal}
use Rattle.alloc_event.proofs.Common.{same_key-true, set, some-injective, subst, suc, sym, true, with_nodes, zero, ℕ, ◌++◌, ◌+◌, ◌<◌}
use Rattle.alloc_event.proofs.Common.{◌==◌, ◌||◌, ◌∙◌, ◌∷◌, ◌≡◌, ◌≢◌}
use Rattle.std.specs.List.{list_any}
use Rattle.forest_store.specs.CollectionRows.{IsWhole, TakesOut}
use Rattle.node_table.specs.Table.{parent_at}
use Rattle.std.proofs.lemmas.List.Elements.{filter-append}
use Rattle.forest_store.proofs.changes.Altering.{filed_at, kept_of}
use Rattle.forest_store.proofs.tables.Hanging.{looked_gone}
use Rattle.forest_store.proofs.tables.Kin.{kin_kept}
use Rattle.forest_store.proofs.tables.LeftParents.{childless}
use Rattle.forest_store.proofs.lists.Lookups.{looked-without}
use Rattle.forest_store.proofs.leaving.Thinning.{IsWhole-filter, apart-filter, lacks-filter, one_less}

-- another key
abbrev pub is_other : NodeKey → NodeKey → Bool
is_other key other = not (same_key key other)

-- the row without the key
abbrev pub row_without : NodeKey → CollectionRow → CollectionRow
row_without key s = record s { keys = filter (is_other key) s.keys }

-- ---- the forest

-- the keys without it
all_keys-without : (key : NodeKey) (ss : List CollectionRow) → all_keys (map (row_without key) ss) ≡ filter (is_other key) (all_keys ss)
all_keys-without key [] = refl
all_keys-without key (s ∷ ss) =
    ap (λ ks. filter (is_other key) s.keys ++ ks) (all_keys-without key ss) ∙ sym (filter-append (is_other key) s.keys (all_keys ss))

-- the ids still rise
above-without : (key : NodeKey) (id : ℕ) (ss : List CollectionRow) → AllByRecursion (λ (later : CollectionRow). id < later.id) ss →
    AllByRecursion (λ (later : CollectionRow). id < later.id) (map (row_without key) ss)
above-without key id [] all = tt
above-without key id (s ∷ ss) all = (all.0, above-without key id ss all.1)

-- by induction: fewer keys, the same ids
rising-without : (key : NodeKey) (ss : List CollectionRow) → AreRising ss → AreRising (map (row_without key) ss)
rising-without key [] rising = tt
rising-without key (s ∷ ss) rising = (above-without key _ ss rising.0, rising-without key ss rising.1)

module _ {t now : Table Node} {key : NodeKey} {node : Node} (out : TakesOut t now key node) where
  -- where the node is gone, so is what has the key
  pub goes : node.gone ≡ true → (m : Node) → node_at t key ≡ Some m → m.gone ≡ true
  goes gone m is = let same : Some node ≡ Some m = sym out.was ∙ is in let one : node ≡ m = cc in ap (λ (x : Node). x.gone) (sym one) ∙ gone

  -- the collections without the node
  pub collections-without : ((k : NodeKey) (n : Node) → node_at t k ≡ Some n → n.key ≡ k) → (ss : List CollectionRow) →
      map (collection_in now) (map (row_without key) ss) ≡ map (with_nodes (filter (λ n. not (is_of key n)))) (map (collection_in t) ss)
  collections-without named [] = refl
  collections-without named (s ∷ ss) =
      let none : node_at now key ≡ None = out.look key ∙ rw (same_key-equal key key refl) refl in
      let nodes = looked-kept key _ none _ ∙ looked-without key _ _ named out.look _ in
      λ i. record { id = s.id; nodes = nodes i; buffers = s.buffers; held = s.held } ∷ collections-without named ss i

  -- by whether it is the key
  filed-without-by : (id : ℕ) (k : NodeKey) (ks : List NodeKey) (same : Bool) → same_key key k ≡ same → is_filed t id k ≡ true →
      list_all (is_filed now id) (filter (is_other key) ks) ≡ true →
      list_all (is_filed now id) (cond (not same) (k ∷ filter (is_other key) ks) (filter (is_other key) ks)) ≡ true
  filed-without-by id k ks true same filed on = on
  filed-without-by id k ks false other filed on =
      let still : node_at now k ≡ node_at t k = out.look k ∙ rw other refl in
      let first : is_filed now id k ≡ true = ap (λ o. option_map_or (λ (n : Node). n.collection == id) o false) still ∙ filed in
      rw first on

  -- other keys are filed still
  filed-without : (id : ℕ) (keys : List NodeKey) → list_all (is_filed t id) keys ≡ true →
      list_all (is_filed now id) (filter (is_other key) keys) ≡ true
  filed-without id [] filed = refl
  filed-without id (k ∷ ks) filed =
      filed-without-by id k ks _ refl (and_left _ _ filed) (filed-without id ks (and_right _ _ filed))

  -- in all rows
  all_filed-without : (ss : List CollectionRow) → are_filed t ss ≡ true → are_filed now (map (row_without key) ss) ≡ true
  all_filed-without [] filed = refl
  all_filed-without (s ∷ ss) filed =
      let first : list_all (is_filed now s.id) (filter (is_other key) s.keys) ≡ true = filed-without _ _ (and_left _ _ filed) in
      rw first (all_filed-without ss (and_right _ _ filed))

  -- the collections stay whole, where the node is gone
  whole-without : node.gone ≡ true → ((k : NodeKey) (n : Node) → node_at t k ≡ Some n → n.key ≡ k) → (ss : List CollectionRow) →
      AllByRecursion (λ (s : CollectionRow). IsWhole (collection_in t s)) ss →
      AllByRecursion (λ (s : CollectionRow). IsWhole (collection_in now s)) (map (row_without key) ss)
  whole-without gone named [] all = tt
  whole-without gone named (s ∷ ss) all =
      let none : node_at now key ≡ None = out.look key ∙ rw (same_key-equal key key refl) refl in
      let nodes = looked-kept key _ none _ ∙ looked-without key _ _ named out.look _ in (
        subst (λ ns. IsWhole (record { id = s.id; nodes = ns; buffers = s.buffers; held = s.held })) (sym nodes)
            (IsWhole-filter _ _ (looked_gone t named key (goes gone) s.keys) all.0),
        whole-without gone named ss all.1,
      )

  -- by whether it is the key
  found-by : (k : NodeKey) {n : Node} (same : Bool) → same_key key k ≡ same → node_at now k ≡ Some n →
      (same ≡ false) × (node_at t k ≡ Some n)
  found-by k true same is = let none : node_at now k ≡ None = out.look k ∙ rw same refl in absurd (cc)
  found-by k false other is = (refl, sym (out.look k ∙ rw other refl) ∙ is)

  -- a node that is there was there
  found-without : (k : NodeKey) {n : Node} → node_at now k ≡ Some n → node_at t k ≡ Some n
  found-without k is = (found-by k (same_key key k) refl is).1

  -- by whether the first is either
  any-other-by : (k : NodeKey) {n : Node} → node_at now k ≡ Some n → (x : NodeKey) (xs : List NodeKey) (gone : Bool) →
      same_key key x ≡ gone → (same : Bool) → same_key k x ≡ same → (same || list_any (same_key k) xs) ≡ true →
      (list_any (same_key k) xs ≡ true → list_any (same_key k) (filter (is_other key) xs) ≡ true) →
      list_any (same_key k) (cond (not gone) (x ∷ filter (is_other key) xs) (filter (is_other key) xs)) ≡ true
  any-other-by k is x xs true gone true same there on =
      let one : key ≡ k = same_key-true key x gone ∙ sym (same_key-true k x same) in
      absurd (false≢true (sym (found-by k (same_key key k) refl is).0 ∙ same_key-equal key k one))
  any-other-by k is x xs true gone false same there on = on there
  any-other-by k is x xs false gone true same there on = rw same refl
  any-other-by k is x xs false gone false same there on = rw same (on there)

  -- another key is still among them
  any-other : (k : NodeKey) {n : Node} → node_at now k ≡ Some n → (ks : List NodeKey) → list_any (same_key k) ks ≡ true →
      list_any (same_key k) (filter (is_other key) ks) ≡ true
  any-other k is [] there = there
  any-other k is (x ∷ xs) there = any-other-by k is x xs _ refl _ refl there (any-other k is xs)

  -- a node that is not gone keeps its parent, where the other is gone
  linked-without : node.gone ≡ true → {ss : List CollectionRow} → IsStored t ss → (k : NodeKey) {n : Node} → node_at now k ≡ Some n →
      n.gone ≡ false →
      parent_at now k ≡ n.parent
  linked-without gone {ss} ok k {n} is here =
      let was = found-by k (same_key key k) refl is in
      out.parents k (λ same. false≢true (sym was.0 ∙ same_key-equal key k (sym same))) (childless t ss ok key (goes gone) k n was.1 here)
      ∙ ok.linked k n was.1 here

  -- all that holds of forests holds
  pub kept-without : node.gone ≡ true → {ss : List CollectionRow} → IsStored t ss → IsStored now (map (row_without key) ss)
  kept-without gone {ss} ok =
      let keys = all_keys-without key ss in
      record {
        first = out.first ∙ ok.first;
        rising = rising-without key ss ok.rising;
        apart = rw keys (apart-filter (is_other key) (all_keys ss) ok.apart);
        named = λ k n is. ok.named k n (found-without k is);
        filed = all_filed-without ss ok.filed;
        there = λ k n is. rw keys (any-other k is _ (ok.there k n (found-without k is)));
        counted = ap length keys ∙ omega (arith, one_less key _ ok.apart (ok.there key node out.was), ok.counted, out.shorter);
        linked = linked-without gone ok;
        heads = λ k n is. out.given n.head ∙ ok.heads k n (found-without k is);
        whole = whole-without gone ok.named ss ok.whole;
        parents = λ k p up. out.given p ∙ ok.parents k p (out.fewer k p up);
        kin = kin_kept t now (λ k n is. (n, found-without k is, refl)) out.fewer ok.kin;
      }

-- ---- the entries

-- a row of another collection has not the key
lacks_without : (t : Table Node) (key : NodeKey) {node : Node} (s : CollectionRow) → node_at t key ≡ Some node →
    list_all (is_filed t s.id) s.keys ≡ true → s.id ≢ node.collection → row_without key s ≡ s
lacks_without t key {node} s was filed differ =
    let none : list_any (same_key key) s.keys ≡ false = elim (either_way (list_any (same_key key) s.keys)) [
      | inl there ↦ absurd (differ (sym (eqb-true _ _ (filed_at t _ _ key _ filed was there))))
      | inr none ↦ none
    ] in
    λ i. record s { keys = lacks-filter key s.keys none i }

-- so with all of greater ids
above_lack : (t : Table Node) (key : NodeKey) {node : Node} (ss : List CollectionRow) → node_at t key ≡ Some node → are_filed t ss ≡ true →
    AllByRecursion (λ (later : CollectionRow). node.collection < later.id) ss → map (row_without key) ss ≡ ss
above_lack t key [] was filed all = refl
above_lack t key (s ∷ ss) was filed all =
    let first = lacks_without t key s was (and_left _ _ filed) (λ same. omega (arith, all.0)) in
    let rest = above_lack t key ss was (and_right _ _ filed) all.1 in
    λ i. first i ∷ rest i

-- by whether the first entry is the collection's
set_without-by : (t : Table Node) (key : NodeKey) {node : Node} (new x : Entry) (es : List Entry) {at : ℕ} → node_at t key ≡ Some node →
    are_filed t (rows_of (x ∷ es)) ≡ true → AreRising (rows_of (x ∷ es)) →
    row_of new ≡ row_without key (row_of (get_or (x ∷ es) at new)) → (here : Bool) → (x.id == node.collection) ≡ here →
    (behind : Option ℕ) → ((n : ℕ) → behind ≡ Some n → row_of new ≡ row_without key (row_of (get_or es n new)) →
    rows_of (set es n new) ≡ map (row_without key) (rows_of es)) →
    cond here (Some 0) (option_map (λ n. n + 1) behind) ≡ Some at →
    rows_of (set (x ∷ es) at new) ≡ map (row_without key) (rows_of (x ∷ es))
set_without-by t key {node} new x es {at} was filed rising is true here behind on told =
    let first : zero ≡ at = cc in
    let own : row_of new ≡ row_without key (row_of x) = rw (← first) at is in
    let low = rw (eqb-true _ _ here) at rising.0 in
    let rest = above_lack t key _ was (and_right _ _ filed) low in
    rw (← first) (λ i. own i ∷ sym rest i)
set_without-by t key new x es was filed rising is false other None on told = absurd (cc)
set_without-by t key {node} new x es {at} was filed rising is false other (Some n) on told =
    let next : at ≡ suc n = omega (arith, some-injective _ at told) in
    let first = lacks_without t key _ was (and_left _ _ filed) (λ same. eqb-false x.id node.collection other same) in
    let own : row_of new ≡ row_without key (row_of (get_or es n new)) = rw next at is in
    let rest = on n refl own in
    rw next (λ i. sym first i ∷ rest i)

-- one entry without the key is all rows without it
set_without : (t : Table Node) (key : NodeKey) {node : Node} (new : Entry) (es : List Entry) {at : ℕ} → node_at t key ≡ Some node →
    are_filed t (rows_of es) ≡ true → AreRising (rows_of es) → place_in node.collection es ≡ Some at →
    row_of new ≡ row_without key (row_of (get_or es at new)) →
    rows_of (set es at new) ≡ map (row_without key) (rows_of es)
set_without t key new [] was filed rising told is = absurd (cc)
set_without t key {node} new (x ∷ es) was filed rising told is =
    set_without-by t key new x es was filed rising is _ refl _
    (λ n on own. set_without t key new es was (and_right _ _ filed) rising.1 on own) told

-- so where the entry at the place lost the key
pub set_forgotten : (t : Table Node) (key : NodeKey) {node : Node} (old new : Entry) (es : List Entry) {at : ℕ} →
    node_at t key ≡ Some node →
    IsStored t (rows_of es) → place_in node.collection es ≡ Some at → old ≡ get_or es at old →
    row_of new ≡ row_without key (row_of old) → rows_of (set es at new) ≡ map (row_without key) (rows_of es)
set_forgotten t key old new es {at} was kept told is own = set_without t key new es was kept.filed kept.rising told
    (own ∙ ap (λ (x : Entry). row_without key (row_of x)) (is ∙ get_or_default es at old new (place_is _ es at told).within))

-- the collection of a node has its entry
pub never_none : {t : Table Node} (es : List Entry) (key : NodeKey) {node : Node} → IsStored t (rows_of es) → node_at t key ≡ Some node →
    place_in node.collection es ≡ None → ⊥
never_none {t} es key {node} ok was none =
    let some = kept_of t _ key _ ok.filed was (ok.there key node was) in
    let no = row_found _ es ∙ ap (option_map row_of) (none_in _ es none) in
    false≢true (ap is_some (sym no) ∙ some)
