-- What stays true of a forest where a node was taken out, and its key is dropped.
use Rattle.forest_store.proofs.Common.{In-any, In-filter, In-filter-back, In-list_any, all_on, both_ways, filter-In, ◌≡◌, ℕ, ◌+◌, ◌==◌}
use Rattle.forest_store.proofs.Common.{Bool, true, false, not, List, [], ◌∷◌, map, length, drop, Option, Some, None, is_some, cond, refl}
use Rattle.forest_store.proofs.Common.{sym, ap, subst, ◌∙◌, inl, inr, arith, list_any, list_all, filter, AllByRecursion, option_map_or}
use Rattle.forest_store.proofs.Common.{false≢true, not-true, NodeKey, same_key, In, and_both, and_left, and_right, either_way}
use Rattle.forest_store.proofs.Common.{same_key-true, Table, node_at, parent_at, Node, Collection, with_nodes, CollectionRow, AreRising}
use Rattle.forest_store.proofs.Common.{IsStored, IsWhole, all_keys, are_filed, collection_in, is_filed, nodes_with, is_of, are_distinct}
use Rattle.forest_store.proofs.Common.{heads_itself, filter-append, filter-list_all, list_all-filter, table_len, same_key-equal}
use Rattle.forest_store.proofs.Common.{TakesOut, is_found, thinned, are_apart, IsSound, filter-all, filter-less, list_all-append}
use Rattle.forest_store.proofs.tables.LeftParents.{childless}
use Rattle.forest_store.proofs.Basics.{all_weaker, all-In, all_mapped, each_none, made-found, map-same}
use Rattle.forest_store.proofs.Basics.{none_each, looked_gone, rooted_filter, kin_kept, looked-without}
use Rattle.forest_store.proofs.Basics.{whole_rooted, same_first, together_filter, united_filter, place-filed}

-- ---- lists of which some elements are kept

module _ {A : Type 0} (p : A → Bool) where
  -- no element that is kept passes a test that none passes
  pub none-filter : (test : A → Bool) (xs : List A) → list_any test xs ≡ false → list_any test (filter p xs) ≡ false
  none-filter test xs none = each_none test _ (λ x on. none_each test xs none x (In-filter p xs x on).0)

  -- what all behind the first pass, all that are left behind the first pass
  pub behind-filter : (test : A → Bool) (xs : List A) → list_all test (drop 1 xs) ≡ true → list_all test (drop 1 (filter p xs)) ≡ true
  behind-filter test [] all = refl
  behind-filter test (x ∷ xs) all = elim (p x) as (λ b. list_all test (drop 1 (cond b (x ∷ filter p xs) (filter p xs))) ≡ true) [
    | true ↦ list_all-filter test p xs all
    | false ↦ behind_first (filter p xs) (list_all-filter test p xs all)
  ]
    where
      behind_first : (ys : List A) → list_all test ys ≡ true → list_all test (drop 1 ys) ≡ true
      behind_first [] all = refl
      behind_first (y ∷ ys) all = and_right _ _ all

  -- what is kept twice
  pub filter-twice : (q : A → Bool) → ((x : A) → p x ≡ true → q x ≡ true) → (xs : List A) → filter p (filter q xs) ≡ filter p xs
  filter-twice q weaker xs = sym (filter-less p q xs weaker)

-- ---- keys

-- keys stay apart
pub apart-filter : (p : NodeKey → Bool) (ks : List NodeKey) → are_apart ks ≡ true → are_apart (filter p ks) ≡ true
apart-filter p [] apart = refl
apart-filter p (k ∷ ks) apart = elim (p k) as (λ b. are_apart (cond b (k ∷ filter p ks) (filter p ks)) ≡ true) [
  | true ↦
      let lone : list_any (same_key k) (filter p ks) ≡ false = none-filter p (same_key k) ks (not-true _ (and_left _ _ apart)) in
      and_both _ _ (ap not lone) (apart-filter p ks (and_right _ _ apart))
  | false ↦ apart-filter p ks (and_right _ _ apart)
]

-- a key that passes is still there
pub there-filter : (p : NodeKey → Bool) (key : NodeKey) (ks : List NodeKey) → p key ≡ true → list_any (same_key key) ks ≡ true →
    list_any (same_key key) (filter p ks) ≡ true
there-filter p key ks passes there = grind (arith, In-list_any, In-any, In-filter-back, same_key-true)

-- a key that none of them is can't be left out
pub lacks-filter : (key : NodeKey) (ks : List NodeKey) → list_any (same_key key) ks ≡ false → filter (λ k. not (same_key key k)) ks ≡ ks
lacks-filter key ks none = filter-all _ ks (λ k on. ap not (none_each _ ks none k on))

-- by induction: keys that stand once are one fewer without one of them
pub one_less : (key : NodeKey) (ks : List NodeKey) → are_apart ks ≡ true → list_any (same_key key) ks ≡ true →
    length (filter (λ k. not (same_key key k)) ks) + 1 ≡ length ks
one_less key [] apart there = absurd (false≢true there)
one_less key (k ∷ ks) apart there = elim (either_way (same_key key k)) [
  | inl same ↦
      let lone : list_any (same_key k) ks ≡ false = not-true _ (and_left _ _ apart) in
      let none = subst (λ (x : NodeKey). list_any (same_key x) ks ≡ false) (sym (same_key-true _ k same)) lone in
      rw same (omega (arith, ap length (lacks-filter key ks none)))
  | inr other ↦ rw other (omega (arith, one_less key ks (and_right _ _ apart) (rw other at there)))
]

-- ---- collections

-- nodes stay distinct
distinct-filter : (p : Node → Bool) (ns : List Node) → are_distinct ns ≡ true → are_distinct (filter p ns) ≡ true
distinct-filter p [] h = refl
distinct-filter p (n ∷ ns) h = elim (p n) as (λ b. are_distinct (cond b (n ∷ filter p ns) (filter p ns)) ≡ true) [
  | true ↦
      let lone : list_any (is_of n.key) (filter p ns) ≡ false = none-filter p (is_of n.key) ns (not-true _ (and_left _ _ h)) in
      and_both _ _ (ap not lone) (distinct-filter p ns (and_right _ _ h))
  | false ↦ distinct-filter p ns (and_right _ _ h)
]

-- a collection stays sound with some of its nodes
IsSound-filter : (p : Node → Bool) (c : Collection) → IsSound c → IsSound (with_nodes (filter p) c)
IsSound-filter p c ok = record {
  distinct = distinct-filter p c.nodes ok.distinct;
  heads = list_all-filter heads_itself p c.nodes ok.heads;
  one_root = behind-filter p (λ (n : Node). is_some n.parent) c.nodes ok.one_root;
  few = ok.few;
}

-- and whole, where those that are left out are gone
pub IsWhole-filter : (p : Node → Bool) (c : Collection) → ((n : Node) → In n c.nodes → p n ≡ false → n.gone ≡ true) → IsWhole c →
    IsWhole (with_nodes (filter p) c)
IsWhole-filter p c over ok = record {
  sound = IsSound-filter p c ok.sound;
  rooted = (rooted_filter c.nodes (whole_rooted c ok) p over).rooted;
  united = united_filter p c.nodes ok.united;
  together = together_filter p c.nodes ok.together;
}

-- ---- rows with the keys that a table has

-- the ids still rise
thinned-rising : (t : Table Node) (ss : List CollectionRow) → AreRising ss → AreRising (map (thinned t) ss)
thinned-rising t [] rising = tt
thinned-rising t (s ∷ ss) rising = (all_mapped _ _ ss rising.0, thinned-rising t ss rising.1)

-- the keys are those that the table has
pub thinned-keys : (t : Table Node) (ss : List CollectionRow) → all_keys (map (thinned t) ss) ≡ filter (is_found t) (all_keys ss)
thinned-keys t [] = refl
thinned-keys t (s ∷ ss) = grind (arith, thinned-keys t ss, filter-append)

-- so have all
pub filed_all : (t : Table Node) (id : ℕ) (ks : List NodeKey) → list_all (is_filed t id) ks ≡ true → list_all (is_found t) ks ≡ true
filed_all t id ks h = all_on _ ks (λ k on. place-filed id (node_at t k) (all-In (is_filed t id) ks k on h))

-- a row whose keys are filed has only keys that the table has
pub thinned-same : (t : Table Node) (s : CollectionRow) → list_all (is_filed t s.id) s.keys ≡ true → thinned t s ≡ s
thinned-same t s filed = λ i. record s { keys = filter-list_all (is_found t) s.keys (filed_all t _ _ filed) i }

-- so have all rows
pub all_thinned-same : (t : Table Node) (ss : List CollectionRow) → are_filed t ss ≡ true → map (thinned t) ss ≡ ss
all_thinned-same t ss filed = grind (arith, map-same, thinned-same, all-In)

-- what is kept by a table, and by one that has fewer nodes
pub thinned-twice : (t now : Table Node) → ((k : NodeKey) → is_found now k ≡ true → is_found t k ≡ true) → (ss : List CollectionRow) →
    map (thinned now) (map (thinned t) ss) ≡ map (thinned now) ss
thinned-twice t now fewer [] = refl
thinned-twice t now fewer (s ∷ ss) =
    λ i. record s { keys = filter-twice _ _ fewer s.keys i } ∷ thinned-twice t now fewer ss i

-- ---- one node less

module _ (t now : Table Node) (key : NodeKey) (out : TakesOut t now key) where
  -- a node that is there was there, under another key
  still : (k : NodeKey) (n : Node) → node_at now k ≡ Some n → (same_key key k ≡ false) × (node_at t k ≡ Some n)
  still k n is = elim (either_way (same_key key k)) [
    | inl e ↦ let found = rw e at (sym (out.look k) ∙ is) in absurd (cc)
    | inr e ↦ (e, rw e at (sym (out.look k) ∙ is))
  ]

  -- a key that is found was found
  found-by : (k : NodeKey) (b : Bool) → is_some (cond b None (node_at t k)) ≡ true → is_found t k ≡ true
  found-by k true found = absurd (false≢true found)
  found-by k false found = found

  -- what is found in the smaller table was found before
  pub found_before : (k : NodeKey) → is_found now k ≡ true → is_found t k ≡ true
  found_before k found = found-by k _ (sym (ap is_some (out.look k)) ∙ found)

  -- a key is filed still, if it is found
  filed-kept : (id : ℕ) (ks : List NodeKey) → list_all (is_filed t id) ks ≡ true →
      list_all (is_filed now id) (filter (is_found now) ks) ≡ true
  filed-kept id ks filed = all_on _ _ (λ k on.
      let x = In-filter (is_found now) ks k on in
      elim (either_way (same_key key k)) [
        | inl same ↦ let none : node_at now k ≡ None = out.look k ∙ rw same refl in both_ways (is_found now k) x.1 (ap is_some none)
        | inr other ↦
            let there : node_at now k ≡ node_at t k = out.look k ∙ rw other refl in
            ap (λ o. option_map_or (λ (n : Node). n.collection == id) o false) there ∙ all-In (is_filed t id) ks k x.0 filed
      ])

  -- by induction over the rows
  all_filed-kept : (ss : List CollectionRow) → are_filed t ss ≡ true → are_filed now (map (thinned now) ss) ≡ true
  all_filed-kept [] filed = refl
  all_filed-kept (s ∷ ss) filed = and_both _ _ (filed-kept _ _ (and_left _ _ filed)) (all_filed-kept ss (and_right _ _ filed))

  -- of keys that were found all are found but this one
  found-others : (ks : List NodeKey) → list_all (is_found t) ks ≡ true → filter (is_found now) ks ≡ filter (λ k. not (same_key key k)) ks
  found-others ks all = filter-In _ _ ks (λ k on. ap is_some (out.look k)
      ∙ elim (same_key key k) as (λ (b : Bool). is_some (cond b None (node_at t k)) ≡ not b) [
        | true ↦ refl
        | false ↦ all-In (is_found t) ks k on all
      ])

  -- all keys have nodes
  all_found : (ss : List CollectionRow) → are_filed t ss ≡ true → list_all (is_found t) (all_keys ss) ≡ true
  all_found [] filed = refl
  all_found (s ∷ ss) filed = list_all-append _ s.keys (all_keys ss)
      ∙ and_both _ _ (filed_all t s.id s.keys (and_left _ _ filed)) (all_found ss (and_right _ _ filed))

  -- the nodes are the others
  pub nodes_left : ((k : NodeKey) (n : Node) → node_at t k ≡ Some n → n.key ≡ k) → (ks : List NodeKey) →
      nodes_with now (filter (is_found now) ks) ≡ filter (λ n. not (is_of key n)) (nodes_with t ks)
  nodes_left named ks = made-found (node_at now) ks ∙ looked-without _ _ _ named out.look ks

  -- the collections stay whole, where the node is gone
  whole-kept : ((m : Node) → node_at t key ≡ Some m → m.gone ≡ true) → ((k : NodeKey) (n : Node) → node_at t k ≡ Some n → n.key ≡ k) →
      (ss : List CollectionRow) → AllByRecursion (λ (s : CollectionRow). IsWhole (collection_in t s)) ss →
      AllByRecursion (λ (s : CollectionRow). IsWhole (collection_in now s)) (map (thinned now) ss)
  whole-kept goes named ss all = all_mapped _ _ ss (all_weaker _ _ ss (λ s whole.
      rw (nodes_left named s.keys)
      (IsWhole-filter (λ n. not (is_of key n)) (collection_in t s) (looked_gone t named key goes s.keys) whole)) all)

  -- a node that is not gone keeps its parent, where the other is gone
  linked-kept : ((m : Node) → node_at t key ≡ Some m → m.gone ≡ true) → (ss : List CollectionRow) → IsStored t ss →
      (k : NodeKey) (n : Node) →
      node_at now k ≡ Some n → n.gone ≡ false → parent_at now k ≡ n.parent
  linked-kept goes ss ok k n is here =
      let was = still k n is in
      out.parents k (λ same. false≢true (sym was.0 ∙ same_key-equal _ k (sym same))) (childless t ss ok _ goes k n was.1 here)
      ∙ ok.linked k n was.1 here

  -- by the node that is gone
  counted-by : (ss : List CollectionRow) → IsStored t ss → (o : Option Node) → node_at t key ≡ o → is_some o ≡ true →
      length (all_keys (map (thinned now) ss)) ≡ table_len now
  counted-by ss ok None is was = absurd (false≢true was)
  counted-by ss ok (Some n) is was =
      let fewer = one_less key (all_keys ss) ok.apart (ok.there key n is) in
      let left = ap length (thinned-keys now ss ∙ found-others (all_keys ss) (all_found ss ok.filed)) in
      omega (arith, fewer, left, ok.counted, out.shorter)

  -- all that holds of forests holds of the rows without the key
  pub taken-kept : ((m : Node) → node_at t key ≡ Some m → m.gone ≡ true) → (ss : List CollectionRow) → IsStored t ss →
      IsStored now (map (thinned now) ss)
  taken-kept goes ss ok = record {
    first = same_first t now out.keys ∙ ok.first;
    rising = thinned-rising now ss ok.rising;
    apart = ap are_apart (thinned-keys now ss) ∙ apart-filter (is_found now) (all_keys ss) ok.apart;
    named = λ k n is. ok.named k n (still k n is).1;
    filed = all_filed-kept ss ok.filed;
    there = λ k n is. ap (list_any (same_key k)) (thinned-keys now ss)
        ∙ there-filter (is_found now) k (all_keys ss) (ap is_some is) (ok.there k n (still k n is).1);
    counted = counted-by ss ok (node_at t key) refl out.was;
    linked = linked-kept goes ss ok;
    heads = λ k n is. out.keys.given n.head ∙ ok.heads k n (still k n is).1;
    whole = whole-kept goes ok.named ss ok.whole;
    parents = λ k p up. out.keys.given p ∙ ok.parents k p (out.fewer k p up);
    kin = kin_kept t now (λ k n is. (n, (still k n is).1, refl)) out.fewer ok.kin;
  }
