-- What stays true of a forest where nodes are written in their places.
use Rattle.forest_store.proofs.Common.{◌≡◌, ◌≢◌, ℕ, ◌==◌, false, List, [], ◌∷◌, map, drop, Option, Some, None, option_map, is_some}
use Rattle.forest_store.proofs.Common.{if◌then◌else◌, refl, sym, ap, subst, ◌∙◌, inl, inr, list_any, list_all, AllByRecursion}
use Rattle.forest_store.proofs.Common.{option_map_or, NodeKey, same_key, Table, node_at, parent_at, Node, Collection, with_nodes}
use Rattle.forest_store.proofs.Common.{CollectionRow, collection_in, is_filed, are_filed, IsStored, IsWhole, nodes_with, is_of}
use Rattle.forest_store.proofs.Common.{are_distinct, heads_itself, Row, row_at, parent_in, table_len, was_given, Writes, with_node}
use Rattle.forest_store.proofs.Common.{key_cases, same_key-equal, same_key-apart, IsSound, GoTogether, arith}
use Rattle.forest_store.proofs.tables.KeptRoots.{rooted_same}
use Rattle.forest_store.proofs.tables.Kin.{kin_kept}
use Rattle.forest_store.proofs.lists.Elements.{all_map, all_weaker, any_map}
use Rattle.forest_store.proofs.lists.Lookups.{looked-map}
use Rattle.forest_store.proofs.tables.Rooted.{whole_rooted}
use Rattle.forest_store.proofs.quiescence.United.{united_mapped}

-- the same keys were given
pub given-same : (t now : Table Node) → now.first ≡ t.first → now.nexts ≡ t.nexts → (key : NodeKey) → was_given now key ≡ was_given t key
given-same t now first nexts key = grind arith

-- the first is the second, but for what a change may make of it
pub record IsSameNode (m n : Node) : Type 0 where
  pub key : m.key ≡ n.key
  pub parent : m.parent ≡ n.parent
  pub attached : m.attached ≡ n.attached
  pub collection : m.collection ≡ n.collection
  pub head : m.head ≡ n.head

module _ (f : Node → Node) (same : (n : Node) → IsSameNode (f n) n) where
  -- no other node has the key
  lacks-map : (key : NodeKey) (ns : List Node) → list_any (is_of key) (map f ns) ≡ list_any (is_of key) ns
  lacks-map key ns = any_map (is_of key) (is_of key) f ns (λ n. rw (same n).key refl)

  -- the keys stay distinct
  pub distinct-map : (ns : List Node) → are_distinct (map f ns) ≡ are_distinct ns
  distinct-map [] = refl
  distinct-map (n ∷ ns) = rw ((same n).key, lacks-map n.key ns, distinct-map ns) refl

  -- the heads stay
  pub heads-map : (ns : List Node) → list_all heads_itself (map f ns) ≡ list_all heads_itself ns
  heads-map ns = all_map heads_itself heads_itself f ns (λ n. rw ((same n).key, (same n).parent, (same n).attached, (same n).head) refl)

  -- the parents stay
  parents-map : (ns : List Node) → list_all (λ (n : Node). is_some n.parent) (map f ns) ≡ list_all (λ (n : Node). is_some n.parent) ns
  parents-map ns = all_map _ _ f ns (λ n. rw (same n).parent refl)

  -- behind the first too
  one_root-map : (ns : List Node) → list_all (λ (n : Node). is_some n.parent) (drop 1 (map f ns)) ≡ list_all (λ (n : Node).
      is_some n.parent) (drop 1 ns)
  one_root-map [] = refl
  one_root-map (n ∷ ns) = parents-map ns

  -- the collection stays sound
  pub IsSound-map : (c : Collection) → IsSound c → IsSound (with_nodes (map f) c)
  IsSound-map c ok = record {
    distinct = distinct-map c.nodes ∙ ok.distinct;
    heads = heads-map c.nodes ∙ ok.heads;
    one_root = one_root-map c.nodes ∙ ok.one_root;
    few = ok.few;
  }

  -- and whole, where no node goes
  pub IsWhole-map : ((n : Node) → (f n).gone ≡ n.gone) → (c : Collection) → (GoTogether c.nodes → GoTogether (map f c.nodes)) → IsWhole c →
      IsWhole (with_nodes (map f) c)
  IsWhole-map gone c together ok = record {
    sound = IsSound-map c ok.sound;
    rooted = (rooted_same c.nodes (whole_rooted c ok) f
        (record { key = λ n. (same n).key; parent = λ n. (same n).parent; gone = gone })).rooted;
    united = united_mapped f (record {
      key = λ n. (same n).key;
      parent = λ n. (same n).parent;
      attached = λ n. (same n).attached;
      head = λ n. (same n).head;
    }) c.nodes ∙ ok.united;
    together = together ok.together;
  }

  -- a key is filed where it was
  filed-map : (t now : Table Node) → ((key : NodeKey) → node_at now key ≡ option_map f (node_at t key)) → (id : ℕ) (key : NodeKey) →
      is_filed now id key ≡ is_filed t id key
  filed-map t now each id key = ap (λ o. option_map_or (λ (n : Node). n.collection == id) o false) (each key)
      ∙ elim (node_at t key) as (λ o. option_map_or (λ (n : Node). n.collection == id) (option_map f o) false ≡ option_map_or (λ (n : Node).
      n.collection == id) o false) [
        | None ↦ refl
        | Some n ↦ rw (same n).collection refl
      ]

  -- so in all entries
  pub all_filed-map : (t now : Table Node) → ((key : NodeKey) → node_at now key ≡ option_map f (node_at t key)) →
      (es : List CollectionRow) →
      are_filed now es ≡ are_filed t es
  all_filed-map t now each es = λ i. list_all (λ (s : CollectionRow). list_all (λ key. filed-map t now each s.id key i) s.keys) es

  -- the collections are as f makes their nodes
  pub collections-map : (t now : Table Node) → ((key : NodeKey) → node_at now key ≡ option_map f (node_at t key)) →
      (es : List CollectionRow) →
      map (collection_in now) es ≡ map (with_nodes (map f)) (map (collection_in t) es)
  collections-map t now each [] = refl
  collections-map t now each (e ∷ es) = rw (looked-map f _ _ each e.keys, collections-map t now each es) refl

  -- by what was found
  found-map-by : (o : Option Node) (n : Node) → option_map f o ≡ Some n → (m : Node) × (o ≡ Some m) × (f m ≡ n)
  found-map-by None n is = absurd (cc)
  found-map-by (Some m) n is = (m, refl, cc)

  -- a node that is found was found before
  found-map : (t now : Table Node) → ((key : NodeKey) → node_at now key ≡ option_map f (node_at t key)) → (key : NodeKey) (n : Node) →
      node_at now key ≡ Some n → (m : Node) × (node_at t key ≡ Some m) × (f m ≡ n)
  found-map t now each key n is = found-map-by _ n (sym (each key) ∙ is)

  -- the collections stay whole
  whole-map : ((n : Node) → (f n).gone ≡ n.gone) → ((ns : List Node) → GoTogether ns → GoTogether (map f ns)) → (t now : Table Node) →
      ((key : NodeKey) → node_at now key ≡ option_map f (node_at t key)) → (es : List CollectionRow) →
      AllByRecursion (λ (e : CollectionRow). IsWhole (collection_in t e)) es →
      AllByRecursion (λ (e : CollectionRow). IsWhole (collection_in now e)) es
  whole-map gone together t now each es whole = all_weaker _ _ es (λ e formed.
      rw (looked-map f (node_at t) (node_at now) each e.keys)
      (IsWhole-map gone (collection_in t e) (together (nodes_with t e.keys)) formed)) whole

  -- all stays so, where no node comes back, and the collections stay whole
  pub kept-with : ((n : Node) → (f n).gone ≡ false → n.gone ≡ false) → (t now : Table Node) → now.first ≡ t.first →
      now.nexts ≡ t.nexts → table_len now ≡ table_len t → ((key : NodeKey) → node_at now key ≡ option_map f (node_at t key)) →
      ((key : NodeKey) → parent_at now key ≡ parent_at t key) → (es : List CollectionRow) →
      AllByRecursion (λ (e : CollectionRow). IsWhole (collection_in now e)) es → IsStored t es → IsStored now es
  kept-with before t now first nexts len each parents es whole ok = record {
    first = first ∙ ok.first;
    rising = ok.rising;
    apart = ok.apart;
    named = λ key n is. let was = found-map t now each key n is in
        ap (λ (x : Node). x.key) (sym was.2) ∙ (same was.0).key ∙ ok.named key was.0 was.1;
    filed = all_filed-map t now each es ∙ ok.filed;
    there = λ key n is. let was = found-map t now each key n is in ok.there key was.0 was.1;
    counted = ok.counted ∙ sym len;
    linked = λ key n is here. let was = found-map t now each key n is in
        let left : was.0.gone ≡ false = before was.0 (ap (λ (x : Node). x.gone) was.2 ∙ here) in
        parents key ∙ ok.linked key was.0 was.1 left ∙ sym (same was.0).parent ∙ ap (λ (x : Node). x.parent) was.2;
    heads = λ key n is. let was = found-map t now each key n is in
        given-same t now first nexts n.head
        ∙ (ap (was_given t) (ap (λ (x : Node). x.head) (sym was.2) ∙ (same was.0).head) ∙ ok.heads key was.0 was.1);
    whole = whole;
    parents = λ key p up. given-same t now first nexts p ∙ ok.parents key p (sym (parents key) ∙ up);
    kin = kin_kept t now
        (λ key n is. let was = found-map t now each key n is in
        (was.0, was.1, ap (λ (x : Node). x.collection) (sym was.2) ∙ (same was.0).collection))
        (λ key p up. sym (parents key) ∙ up) ok.kin;
  }

  -- so where no node goes
  pub kept-map : ((n : Node) → (f n).gone ≡ n.gone) → ((ns : List Node) → GoTogether ns → GoTogether (map f ns)) → (t now : Table Node) →
      now.first ≡ t.first → now.nexts ≡ t.nexts → table_len now ≡ table_len t →
      ((key : NodeKey) → node_at now key ≡ option_map f (node_at t key)) → ((key : NodeKey) → parent_at now key ≡ parent_at t key) →
      (es : List CollectionRow) → IsStored t es → IsStored now es
  kept-map gone together t now first nexts len each parents es ok =
      kept-with (λ n h. sym (gone n) ∙ h) t _ first nexts len each parents _ (whole-map gone together t now each _ ok.whole) ok

-- the row that is written has the node
written_row : (node : Node) (o : Option (Row Node)) → option_map (λ (row : Row Node). row.node) (option_map (with_node node) o) ≡ option_map
    (λ _. node) (option_map (λ (row : Row Node). row.node) o)
written_row node None = refl
written_row node (Some row) = refl

-- what a table has at each key, once a node is written
pub look-written : (t now : Table Node) (key : NodeKey) (node : Node) → Writes t now key node → (k : NodeKey) →
    node_at now k ≡ (if same_key key k then option_map (λ _. node) (node_at t k) else node_at t k)
look-written t now key node w k = elim (key_cases key k) [
  | inl same ↦ rw (same_key-equal key k same) (subst (λ (x : NodeKey). node_at now x ≡ option_map (λ _. node) (node_at t x)) same
      (ap (option_map (λ (row : Row Node). row.node)) w.written ∙ written_row node (row_at t key)))
  | inr differ ↦ rw (same_key-apart key k differ) (ap (option_map (λ (row : Row Node). row.node)) (w.others k (λ same. differ (sym same))))
]

-- the row that is written has its parent
written_parent : (node : Node) (o : Option (Row Node)) → parent_in (option_map (with_node node) o) ≡ parent_in o
written_parent node None = refl
written_parent node (Some row) = refl

-- no parent changes where a node is written
pub parents-written : (t now : Table Node) (key : NodeKey) (node : Node) → Writes t now key node → (k : NodeKey) →
    parent_at now k ≡ parent_at t k
parents-written t now key node w k = elim (key_cases key k) [
  | inl same ↦ subst (λ (x : NodeKey). parent_at now x ≡ parent_at t x) same (ap parent_in w.written ∙ written_parent node (row_at t key))
  | inr differ ↦ ap parent_in (w.others k (λ same. differ (sym same)))
]

-- f keeps what is found under another key
look-kept : (f : Node → Node) (key k : NodeKey) → key ≢ k → (o : Option Node) → ((n : Node) → o ≡ Some n → n.key ≡ k) →
    ((n : Node) → n.key ≢ key → f n ≡ n) → o ≡ option_map f o
look-kept f key k differ None named others = refl
look-kept f key k differ (Some n) named others = ap Some (sym (others n (λ same. differ (sym same ∙ named n refl))))

-- the node is f's of the one that was there, which f changes alone
pub look-changed : (t now : Table Node) (f : Node → Node) (key : NodeKey) (old node : Node) → Writes t now key node →
    node_at t key ≡ Some old → f old ≡ node → ((k : NodeKey) (n : Node) → node_at t k ≡ Some n → n.key ≡ k) →
    ((n : Node) → n.key ≢ key → f n ≡ n) → (k : NodeKey) → node_at now k ≡ option_map f (node_at t k)
look-changed t now f key old node w was becomes named others k = elim (key_cases key k) [
  | inl same ↦
      let here : node_at t k ≡ Some old = subst (λ (x : NodeKey). node_at t x ≡ Some old) same was in
      look-written t now key node w k ∙ rw (same_key-equal key k same, here) (ap Some (sym becomes))
  | inr differ ↦ look-written t now key node w k
      ∙ rw (same_key-apart key k differ) (look-kept f key k differ (node_at t k) (named k) others)
]
