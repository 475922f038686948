-- A collection without its unkept nodes, and collections without the empty ones.
use Rattle.forest_store.proofs.Common.{false_if, In-list_any, all_on, map-In, ◌≡◌, ℕ, suc, ◌==◌, ◌<◌, Bool, true, false, ◌&&◌, not}
use Rattle.forest_store.proofs.Common.{List, [], ◌∷◌, map, length, Option, Some, None, is_some, cond, refl, sym, ap, ◌∙◌, inl, inr}
use Rattle.forest_store.proofs.Common.{arith, find, list_any, list_all, filter, cons_option, AllByRecursion, option_map_or}
use Rattle.forest_store.proofs.Common.{false≢true, eqb-true, eqb-false, eq-eqb, NodeKey, same_key, and_right, or_left, or_right}
use Rattle.forest_store.proofs.Common.{same_key-true, Table, node_at, Node, CollectionRow, AreRising, IsStored, all_keys, are_filed}
use Rattle.forest_store.proofs.Common.{collection_in, is_filed, nodes_with, is_unkept, ne_eqb, filter-list_all, list_all-filter}
use Rattle.forest_store.proofs.Common.{same_key-equal, is_left, tidied, without_unkept_in, is_bare, is_found, left_at, thin_in}
use Rattle.forest_store.proofs.Common.{thinned, unless_unkept, without_bare, are_apart, either_way, filter-all, none-find}
use Rattle.forest_store.proofs.leaving.Thinning.{filed_all}
use Rattle.forest_store.proofs.Basics.{all-In, all_at, all_filter, all_in, all_weaker, made-In, map-same, none_each}

-- a key of a collection has a node of it
filed_there : (t : Table Node) (id : ℕ) (ks : List NodeKey) (key : NodeKey) → list_all (is_filed t id) ks ≡ true →
    list_any (same_key key) ks ≡ true → is_filed t id key ≡ true
filed_there t id ks key filed there = grind (arith, In-list_any, same_key-true, all-In)

-- a node is of one collection
one_collection-by : (one two : ℕ) (o : Option Node) → option_map_or (λ (n : Node). n.collection == one) o false ≡ true →
    option_map_or (λ (n : Node). n.collection == two) o false ≡ true → one ≡ two
one_collection-by one two None a b = absurd (false≢true a)
one_collection-by one two (Some n) a b = sym (eqb-true _ _ a) ∙ eqb-true _ _ b

-- the first that is left
unless_first : (o : Option Node) (ns : List Node) → cons_option (unless_unkept o) (filter (λ n. not (is_unkept n)) ns) ≡ filter (λ n.
    not (is_unkept n)) (cons_option o ns)
unless_first o ns = grind arith

module _ (t now : Table Node) (s : CollectionRow) (filed : list_all (is_filed t s.id) s.keys ≡ true) (look : (k : NodeKey) →
    node_at now k ≡ left_at t s.keys k) where
  -- a key of another collection finds what it found
  other_look : (id : ℕ) (key : NodeKey) → (id == s.id) ≡ false → is_filed t id key ≡ true → node_at now key ≡ node_at t key
  other_look id key other own =
      let off : list_any (same_key key) s.keys ≡ false =
      false_if _ (λ there. eqb-false id s.id other
      (one_collection-by _ _ _ own (filed_there t _ _ _ filed there))) in
      look key ∙ (rw off refl)

  -- so do all of its keys
  other_nodes : (id : ℕ) (ks : List NodeKey) → (id == s.id) ≡ false → list_all (is_filed t id) ks ≡ true →
      nodes_with now ks ≡ nodes_with t ks
  other_nodes id ks other own = made-In _ _ ks (λ k on. other_look id k other (all-In (is_filed t id) ks k on own))

  -- another collection stays
  pub other_same : (x : CollectionRow) → (x.id == s.id) ≡ false → list_all (is_filed t x.id) x.keys ≡ true →
      collection_in now x ≡ collection_in t x
  other_same x other own = λ i. record { id = x.id; nodes = other_nodes _ _ other own i; buffers = x.buffers; held = x.held }

  -- the table has its keys still
  other_found : (id : ℕ) (ks : List NodeKey) → (id == s.id) ≡ false → list_all (is_filed t id) ks ≡ true → list_all (is_found now) ks ≡ true
  other_found id ks other own = all_on _ ks (λ k on.
      ap is_some (other_look id k other (all-In (is_filed t id) ks k on own)) ∙ all-In (is_found t) ks k on (filed_all t id ks own))

  -- so its row stays
  pub other_thinned : (x : CollectionRow) → (x.id == s.id) ≡ false → list_all (is_filed t x.id) x.keys ≡ true → thinned now x ≡ x
  other_thinned x other own = λ i. record x { keys = filter-list_all (is_found now) x.keys (other_found _ _ other own) i }

  -- the nodes of some of its keys are those that are not unkept
  own_nodes : (ks : List NodeKey) → ((k : NodeKey) → list_any (same_key k) ks ≡ true → list_any (same_key k) s.keys ≡ true) →
      nodes_with now (filter (is_found now) ks) ≡ filter (λ n. not (is_unkept n)) (nodes_with t ks)
  own_nodes [] within = refl
  own_nodes (k ∷ ks) within =
      let here = look k ∙ (rw (within k (or_left _ _ (same_key-equal k k refl))) refl) in
      by (node_at now k) refl ∙ (rw here (ap (cons_option (unless_unkept (node_at t k))) (own_nodes ks (λ x there.
      within x (or_right _ _ there)))))
      ∙ unless_first (node_at t k) (nodes_with t ks)
    where
      by : (o : Option Node) → node_at now k ≡ o →
          nodes_with now (cond (is_some o) (k ∷ filter (is_found now) ks) (filter (is_found now) ks)) ≡ cons_option o
          (nodes_with now (filter (is_found now) ks))
      by None is = refl
      by (Some n) is = rw is refl

  -- the collection is as it is without those
  pub own_tidied : collection_in now (thinned now s) ≡ tidied (collection_in t s)
  own_tidied = λ i. record { id = s.id; nodes = own_nodes _ (λ k there. there) i; buffers = s.buffers; held = s.held }

-- as many nodes as keys that are found
found-length : (t : Table Node) (ks : List NodeKey) → length (nodes_with t (filter (is_found t) ks)) ≡ length (filter (is_found t) ks)
found-length t [] = refl
found-length t (k ∷ ks) = by (found-length t ks) _ refl
  where
    -- by cases: a key that finds a node adds one to both, and another is left out
    by : length (nodes_with t (filter (is_found t) ks)) ≡ length (filter (is_found t) ks) → (o : Option Node) → node_at t k ≡ o →
        length (nodes_with t (cond (is_some o) (k ∷ filter (is_found t) ks) (filter (is_found t) ks))) ≡ length
        (cond (is_some o) (k ∷ filter (is_found t) ks) (filter (is_found t) ks))
    by on None is = on
    by on (Some n) is = rw is (ap (λ n. suc n) on)

-- a row is bare where nothing is left of its collection
pub bare_left : (t : Table Node) (s : CollectionRow) → is_bare (thinned t s) ≡ is_left (collection_in t (thinned t s))
bare_left t s = ap (λ n. (n == 0) && (length s.held == 0)) (sym (found-length t s.keys))

-- ---- all collections

-- ids above another are others
pub above_other : (id low : ℕ) (ss : List CollectionRow) → AllByRecursion (λ (later : CollectionRow). low < later.id) ss →
    (low == id) ≡ true →
    AllByRecursion (λ (x : CollectionRow). (x.id == id) ≡ false) ss
above_other id low ss all same = grind (arith, all_weaker, ne_eqb, eqb-true)

-- rows of other ids stay
pub bare_others : (id : ℕ) (ss : List CollectionRow) → AllByRecursion (λ (x : CollectionRow). (x.id == id) ≡ false) ss →
    without_bare id ss ≡ ss
bare_others id ss others = filter-all _ ss (λ x on. rw (all_at _ _ others x on) refl)

-- no other row has the id
pub thin_others : (t : Table Node) (id : ℕ) (ss : List CollectionRow) → AllByRecursion (λ (x : CollectionRow). (x.id == id) ≡ false) ss →
    thin_in t id ss ≡ ss
thin_others t id ss others = map-same _ ss (λ x on. rw (all_at _ _ others x on) refl)

-- by induction: no other collection has the id
pub over_others : (t : Table Node) (id : ℕ) (ss : List CollectionRow) → AllByRecursion (λ (x : CollectionRow). (x.id == id) ≡ false) ss →
    without_unkept_in id (map (collection_in t) ss) ≡ map (collection_in t) ss
over_others t id [] others = refl
over_others t id (s ∷ ss) others = rw others.0 (ap (λ l. collection_in t s ∷ l) (over_others t id ss others.1))

-- where none is found all are others
pub none_others : (id : ℕ) (ss : List CollectionRow) → find (λ (x : CollectionRow). x.id == id) ss ≡ None →
    AllByRecursion (λ (x : CollectionRow). (x.id == id) ≡ false) ss
none_others id ss none = all_in _ ss (none_each _ ss (none-find _ ss none))

module _ (t now : Table Node) (s : CollectionRow) (filed : list_all (is_filed t s.id) s.keys ≡ true) (look : (k : NodeKey) →
    node_at now k ≡ left_at t s.keys k) where
  -- other collections stay
  others_same : (ss : List CollectionRow) → are_filed t ss ≡ true → AllByRecursion (λ (x : CollectionRow). (x.id == s.id) ≡ false) ss →
      map (collection_in now) ss ≡ map (collection_in t) ss
  others_same ss all others = grind (arith, map-In, other_same, all_at, all-In)

  -- the found one, with all behind it
  tidied_here : (ss : List CollectionRow) → are_filed t ss ≡ true → AllByRecursion (λ (x : CollectionRow). (x.id == s.id) ≡ false) ss →
      (b : Bool) →
      is_bare (thinned now s) ≡ b → map (collection_in now) (cond (not b) (thinned now s ∷ ss) ss) ≡ cond
      (is_left (tidied (collection_in t s))) (map (collection_in t) ss) (tidied (collection_in t s) ∷ map (collection_in t) ss)
  tidied_here ss all others b bare =
      let own : collection_in now (thinned now s) ≡ tidied (collection_in t s) = own_tidied t now s filed look in
      let left : is_left (tidied (collection_in t s)) ≡ b = ap is_left (sym own) ∙ sym (bare_left now s) ∙ bare in
      rw left (by b)
    where
      by : (b : Bool) → map (collection_in now) (cond (not b) (thinned now s ∷ ss) ss) ≡ cond b (map (collection_in t) ss)
          (tidied (collection_in t s) ∷ map (collection_in t) ss)
      by true = others_same ss all others
      by false = λ i. own_tidied t now s filed look i ∷ others_same ss all others i

  -- the collection with the id has no unkept node any more, and is removed if it is empty
  pub tidied_all : (ss : List CollectionRow) → AreRising ss → are_filed t ss ≡ true →
      find (λ (x : CollectionRow). x.id == s.id) ss ≡ Some s →
      map (collection_in now) (without_bare s.id (thin_in now s.id ss)) ≡ without_unkept_in s.id (map (collection_in t) ss)
  tidied_all [] rising all found = absurd (cc)
  tidied_all (x ∷ xs) rising all found = by (tidied_all xs rising.1 (and_right _ _ all)) (x.id == s.id) refl found
    where
      by : (find (λ (y : CollectionRow). y.id == s.id) xs ≡ Some s →
          map (collection_in now) (without_bare s.id (thin_in now s.id xs)) ≡ without_unkept_in s.id (map (collection_in t) xs)) →
          (b : Bool) → (x.id == s.id) ≡ b → cond b (Some x) (find (λ (y : CollectionRow). y.id == s.id) xs) ≡ Some s →
          map (collection_in now) (without_bare s.id (thin_in now s.id (x ∷ xs))) ≡ without_unkept_in s.id
          (map (collection_in t) (x ∷ xs))
      by on true same is =
          let one : x ≡ s = cc in
          let others = above_other s.id x.id xs rising.0 same in
          let own : (s.id == s.id) ≡ true = eq-eqb s.id s.id refl in
          rw (one, own, own, thin_others now s.id xs others, bare_others s.id xs others)
          (tidied_here xs (and_right _ _ all) others (is_bare (thinned now s)) refl)
      by on false other is = grind (arith, other_same)

  -- the rows of others have only keys that the table has, so thinning one row thins all
  pub thinned_all : (ss : List CollectionRow) → are_filed t ss ≡ true → thin_in now s.id ss ≡ map (thinned now) ss
  thinned_all ss all = map-In _ _ ss (λ x on. elim (either_way (x.id == s.id)) [
    | inl same ↦ rw same refl
    | inr other ↦ rw other
        (sym (other_thinned t now s filed look x other (all-In (λ (x : CollectionRow). list_all (is_filed t x.id) x.keys) ss x on all)))
  ])

-- ---- rows without a bare one

-- the ids still rise
bare-rising : (id : ℕ) (ss : List CollectionRow) → AreRising ss → AreRising (without_bare id ss)
bare-rising id [] rising = tt
bare-rising id (s ∷ ss) rising = grind (arith, bare-rising id ss rising.1, all_filter)

-- the keys stay
no_keys : (ks : List NodeKey) → (length ks == 0) ≡ true → ks ≡ []
no_keys [] none = refl
no_keys (k ∷ ks) none = absurd (let zero = eqb-true _ _ none in omega (arith, zero))

-- by induction: a bare row has no key
bare-keys : (id : ℕ) (ss : List CollectionRow) → all_keys (without_bare id ss) ≡ all_keys ss
bare-keys id [] = refl
bare-keys id (s ∷ ss) = grind (arith, bare-keys id ss, no_keys)

-- they are filed still
bare-filed : (t : Table Node) (id : ℕ) (ss : List CollectionRow) → are_filed t ss ≡ true → are_filed t (without_bare id ss) ≡ true
bare-filed t id ss filed = grind (arith, list_all-filter)

-- all that holds of forests holds without a bare collection
pub bare-kept : (t : Table Node) (id : ℕ) (ss : List CollectionRow) → IsStored t ss → IsStored t (without_bare id ss)
bare-kept t id ss ok = record {
  first = ok.first;
  rising = bare-rising id ss ok.rising;
  apart = ap are_apart (bare-keys id ss) ∙ ok.apart;
  named = ok.named;
  filed = bare-filed t id ss ok.filed;
  there = λ key n is. ap (list_any (same_key key)) (bare-keys id ss) ∙ ok.there key n is;
  counted = ap length (bare-keys id ss) ∙ ok.counted;
  linked = ok.linked;
  heads = ok.heads;
  whole = all_filter _ _ _ ok.whole;
  parents = ok.parents;
  kin = ok.kin;
}
