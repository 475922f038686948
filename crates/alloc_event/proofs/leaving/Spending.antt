-- A node that is gone is forgotten, or its end is spent: once the unkept nodes of its collection are taken out, that is the same.
use Rattle.alloc_event.proofs.Common.{AllByRecursion, AreRising, Bool, Collection, CollectionRow, End, List, Node, NodeKey, None, Option}
use Rattle.alloc_event.proofs.Common.{Some, Table, [], and_left, and_right, ap, are_filed, arith, collection_in, either_way, eqb-false}
use Rattle.alloc_event.proofs.Common.{eqb-true, false, filter, inl, inr, is_filed, is_left, is_of, is_unkept, list_all, map, node_at}
use Rattle.alloc_event.proofs.Common.{nodes_with, not, option_map_or, refl, same_key-true, some-injective, sym, true, with_end}
use Rattle.alloc_event.proofs.Common.{with_nodes, without_unkept_in, ℕ, ◌<◌, ◌==◌, ◌∙◌, ◌∷◌, ◌≡◌, ◌≢◌}
use Rattle.std.specs.List.{cons_option}
use Rattle.std.proofs.Common.{if◌then◌else◌}
use Rattle.forest_store.proofs.lists.Lookups.{same_key-swap}

-- the node is kept
abbrev stays : Node → Bool
stays n = not (is_unkept n)

module _ (key : NodeKey) where
  -- the nodes without the one with the key
  abbrev pub without : List Node → List Node
  without ns = filter (λ n. not (is_of key n)) ns

  -- the nodes, where the end of that one is spent
  abbrev pub ended : List Node → List Node
  ended ns = map (with_end key End.Spent) ns

module _ (t : Table Node) (key : NodeKey) {node : Node} (was : node_at t key ≡ Some node) (gone : node.gone ≡ true)
    (named : (k : NodeKey) (n : Node) → node_at t k ≡ Some n → n.key ≡ k) where
  -- what has the key is the node
  is_node : (k : NodeKey) (n : Node) → node_at t k ≡ Some n → is_of key n ≡ true → node ≡ n
  is_node k n at same =
      some-injective _ _ (sym was ∙ ap (node_at t) (sym (same_key-true _ _ same) ∙ named k n at) ∙ at)

  -- one node more: it stays or not on either side
  left_one : (k : NodeKey) (o : Option Node) → node_at t k ≡ o → (rest : List Node) →
      filter stays (without key rest) ≡ filter stays (ended key rest) →
      filter stays (without key (cons_option o rest)) ≡ filter stays (ended key (cons_option o rest))
  left_one k None at rest on = on
  left_one k (Some n) at rest on = elim (either_way (is_of key n)) [
    | inl same ↦
        let out : n.gone ≡ true = ap (λ (x : Node). x.gone) (sym (is_node k n at same)) ∙ gone in
        rw (same, same_key-swap key n.key ∙ same, out) on
    | inr other ↦ rw (other, same_key-swap key n.key ∙ other) (ap (λ l. if stays n then n ∷ l else l) on)
  ]

  -- by induction over the keys of the collection
  left_nodes : (ks : List NodeKey) → filter stays (without key (nodes_with t ks)) ≡ filter stays (ended key (nodes_with t ks))
  left_nodes [] = refl
  left_nodes (k ∷ ks) = left_one k _ refl _ (left_nodes ks)

  -- a node of another collection is the same on either side
  same_one : (id : ℕ) → id ≢ node.collection → (k : NodeKey) (o : Option Node) → node_at t k ≡ o →
      option_map_or (λ (n : Node). n.collection == id) o false ≡ true → (rest : List Node) → without key rest ≡ ended key rest →
      without key (cons_option o rest) ≡ ended key (cons_option o rest)
  same_one id differ k None at filed rest on = on
  same_one id differ k (Some n) at filed rest on = elim (either_way (is_of key n)) [
    | inl same ↦ absurd (differ (sym (eqb-true _ _ filed) ∙ ap (λ (x : Node). x.collection) (sym (is_node k n at same))))
    | inr other ↦ rw (other, same_key-swap key n.key ∙ other) (ap (λ l. n ∷ l) on)
  ]

  -- so are all of them
  same_nodes : (id : ℕ) → id ≢ node.collection → (ks : List NodeKey) → list_all (is_filed t id) ks ≡ true →
      without key (nodes_with t ks) ≡ ended key (nodes_with t ks)
  same_nodes id differ [] filed = refl
  same_nodes id differ (k ∷ ks) filed =
      same_one id differ k _ refl (and_left _ _ filed) _ (same_nodes id differ ks (and_right _ _ filed))

  -- and the collections with greater ids
  same_above : (ss : List CollectionRow) → are_filed t ss ≡ true →
      AllByRecursion (λ (later : CollectionRow). node.collection < later.id) ss →
      map (with_nodes (without key)) (map (collection_in t) ss) ≡ map (with_nodes (ended key)) (map (collection_in t) ss)
  same_above [] filed all = refl
  same_above (s ∷ ss) filed all =
      let nodes = same_nodes s.id (λ same. omega (arith, same, all.0)) s.keys (and_left _ _ filed) in
      let rest = same_above ss (and_right _ _ filed) all.1 in
      λ i. record { id = s.id; nodes = nodes i; buffers = s.buffers; held = s.held } ∷ rest i

  -- without its unkept nodes the collection is the same on either side, and all others are
  pub spent_same : (ss : List CollectionRow) → are_filed t ss ≡ true → AreRising ss →
      without_unkept_in node.collection (map (with_nodes (without key)) (map (collection_in t) ss))
      ≡ without_unkept_in node.collection (map (with_nodes (ended key)) (map (collection_in t) ss))
  spent_same [] filed rising = refl
  spent_same (s ∷ ss) filed rising = elim (either_way (s.id == node.collection)) [
    | inl here ↦
        let low = rw (eqb-true _ _ here) at rising.0 in
        let rest = same_above ss (and_right _ _ filed) low in
        let nodes = left_nodes s.keys in
        rw here (λ i.
        let c : Collection = record { id = s.id; nodes = nodes i; buffers = s.buffers; held = s.held } in
        if is_left c then rest i else c ∷ rest i)
    | inr other ↦
        let nodes = same_nodes s.id (eqb-false _ _ other) s.keys (and_left _ _ filed) in
        let rest = spent_same ss (and_right _ _ filed) rising.1 in
        rw other (λ i. record { id = s.id; nodes = nodes i; buffers = s.buffers; held = s.held } ∷ rest i)
  ]
