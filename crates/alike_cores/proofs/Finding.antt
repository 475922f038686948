-- What is found by its name in renamed collections, in whatever order they stand.
use Rattle.alike_cores.proofs.Common.{Collection, Forest, In, In-map, IsSound, KeepsIds, KeepsKeys, List, Mixed, Node, NodeKey, Rise, ap}
use Rattle.alike_cores.proofs.Common.{collection_renamed, eq-eqb, eqb-true, find, flat_map, ids, map, node_of, node_renamed, node_undated}
use Rattle.alike_cores.proofs.Common.{option_map, refl, same_key, same_key-refl, same_key-true, some-injective, subst, sym, undated, ℕ}
use Rattle.alike_cores.proofs.Common.{◌==◌, ◌∙◌, ◌≡◌}
use Rattle.forest_store.specs.Nodes.{is_of}
use Rattle.core_state.proofs.collections.ById.{found_by_id}
use Rattle.core_state.proofs.forced.Forest.{node_in}
use Rattle.alike_cores.proofs.Forcings.{find_alike}
use Rattle.alike_cores.proofs.Reading.{nodes-renamed}
use Rattle.alike_cores.proofs.Renamings.{node_of-renamed}
use Rattle.alike_cores.proofs.Mixing.{find-mixed, mixed-flat_map}

-- ---- names

-- numbers that become one are one
pub one_id : (id : ℕ → ℕ) → KeepsIds id → (a b : ℕ) → id a ≡ id b → a ≡ b
one_id id kept a b same = eqb-true a b (sym (kept a b) ∙ eq-eqb (id a) (id b) same)

-- keys that become one are one
pub one_key : (to : NodeKey → NodeKey) → KeepsKeys to → (a b : NodeKey) → to a ≡ to b → a ≡ b
one_key to keeps a b same = same_key-true a b (sym (keeps a b) ∙ (ap (same_key (to a)) (sym same) ∙ same_key-refl (to a)))

-- ---- collections that are apart

-- no two of the collections have one id, and no two nodes one key
pub record AreApart (cs : List Collection) : Type 0 where
  pub ids : (c d : Collection) → In c cs → In d cs → c.id ≡ d.id → c ≡ d
  pub keys : (c d : Collection) → In c cs → In d cs → (n m : Node) → In n c.nodes → In m d.nodes → n.key ≡ m.key → n ≡ m

-- Ids rise, so that a collection is what is found by its id.
pub one_collection : (cs : List Collection) → Rise (ids cs) → (c d : Collection) → In c cs → In d cs → c.id ≡ d.id → c ≡ d
one_collection cs rise c d c_in d_in same =
    some-injective c d (sym (found_by_id cs c c.id rise c_in refl) ∙ found_by_id cs d c.id rise d_in (sym same))

-- A key stands in one collection, and there once.
pub sound_apart : (f : Forest) → IsSound f → AreApart f.collections
sound_apart f sound = record {
  ids = one_collection f.collections sound.rising;
  keys = λ c d c_in d_in n m n_in m_in same.
      let is : c ≡ d = one_collection f.collections sound.rising c d c_in d_in (sound.apart c d c_in d_in n m n_in m_in same) in
      sound.once c c_in n m n_in (subst (λ (x : Collection). In m x.nodes) (sym is) m_in) same;
}

-- Other names keep them apart, since no two become one.
pub renamed_apart : (to : NodeKey → NodeKey) (id : ℕ → ℕ) → KeepsKeys to → KeepsIds id → (cs : List Collection) → AreApart cs →
    AreApart (map (collection_renamed to id) cs)
renamed_apart to id keeps kept cs apart = record {
  ids = λ c d c_in d_in same.
      let a = In-map (collection_renamed to id) cs c c_in in
      let b = In-map (collection_renamed to id) cs d d_in in
      let is : id a.0.id ≡ id b.0.id =
      sym (ap (λ (x : Collection). x.id) a.2) ∙ (same ∙ ap (λ (x : Collection). x.id) b.2) in
      a.2 ∙ (ap (collection_renamed to id) (apart.ids a.0 b.0 a.1 b.1 (one_id id kept a.0.id b.0.id is)) ∙ sym b.2);
  keys = λ c d c_in d_in n m n_in m_in same.
      let a = In-map (collection_renamed to id) cs c c_in in
      let b = In-map (collection_renamed to id) cs d d_in in
      let x = In-map (node_renamed to id) a.0.nodes n (subst (λ (e : Collection). In n e.nodes) a.2 n_in) in
      let y = In-map (node_renamed to id) b.0.nodes m (subst (λ (e : Collection). In m e.nodes) b.2 m_in) in
      let is : to x.0.key ≡ to y.0.key = sym (ap (λ (e : Node). e.key) x.2) ∙ (same ∙ ap (λ (e : Node). e.key) y.2) in
      x.2 ∙ (ap (node_renamed to id) (apart.keys a.0 b.0 a.1 b.1 x.0 y.0 x.1 y.1 (one_key to keeps x.0.key y.0.key is)) ∙ sym y.2);
}

-- ---- two lists

-- In collections that are apart, in whatever order, the same is found by its id.
pub collections_mixed : (cs ds : List Collection) → Mixed cs ds → AreApart cs → (i : ℕ) →
    find (λ (c : Collection). c.id == i) cs ≡ find (λ (c : Collection). c.id == i) ds
collections_mixed cs ds mixed apart i = find-mixed (λ (c : Collection). c.id == i) cs ds mixed
    (λ c d c_in d_in c_is d_is. apart.ids c d c_in d_in (eqb-true c.id i c_is ∙ sym (eqb-true d.id i d_is)))

-- And the same node by its key.
pub nodes_mixed : (cs ds : List Collection) → Mixed cs ds → AreApart cs → (key : NodeKey) →
    node_of (flat_map (λ (c : Collection). c.nodes) cs) key ≡ node_of (flat_map (λ (c : Collection). c.nodes) ds) key
nodes_mixed cs ds mixed apart key = find-mixed (is_of key) (flat_map (λ (c : Collection). c.nodes) cs)
    (flat_map (λ (c : Collection). c.nodes) ds) (mixed-flat_map (λ (c : Collection). c.nodes) cs ds mixed)
    (λ n m n_in m_in n_is m_is.
    let a = node_in cs n n_in in
    let b = node_in cs m m_in in
    apart.keys a.0 b.0 a.1 b.1 n m a.2 b.2 (same_key-true n.key key n_is ∙ sym (same_key-true m.key key m_is)))

module _ (to : NodeKey → NodeKey) (id : ℕ → ℕ) (keeps : KeepsKeys to) (kept : KeepsIds id) (cs ds : List Collection)
    (alike : Mixed (map (collection_renamed to id) cs) (map undated ds)) (apart : AreApart cs) where
  -- the collection of the new id is the renamed one, but for dates
  pub found_collection : (i : ℕ) → option_map undated (find (λ (c : Collection). c.id == id i) ds)
      ≡ option_map (collection_renamed to id) (find (λ (c : Collection). c.id == i) cs)
  found_collection i =
      sym (find_alike (λ (c : Collection). c.id == id i) (λ (c : Collection). c.id == id i) undated (λ c. refl) ds)
      ∙ (sym (collections_mixed (map (collection_renamed to id) cs) (map undated ds) alike (renamed_apart to id keeps kept cs apart) (id i))
      ∙ find_alike (λ (c : Collection). c.id == id i) (λ (c : Collection). c.id == i) (collection_renamed to id) (λ c. kept c.id i) cs)

  -- the node of the new key is the renamed one, but for the date
  pub found_node : (key : NodeKey) → option_map node_undated (node_of (flat_map (λ (c : Collection). c.nodes) ds) (to key))
      ≡ option_map (node_renamed to id) (node_of (flat_map (λ (c : Collection). c.nodes) cs) key)
  found_node key =
      sym (node_of-renamed (λ k. k) (λ i. i) (λ a b. refl) (flat_map (λ (c : Collection). c.nodes) ds) (to key))
      ∙ (ap (λ (ns : List Node). node_of ns (to key)) (sym (nodes-renamed (λ k. k) (λ i. i) ds))
      ∙ (sym (nodes_mixed (map (collection_renamed to id) cs) (map undated ds) alike (renamed_apart to id keeps kept cs apart) (to key))
      ∙ (ap (λ (ns : List Node). node_of ns (to key)) (nodes-renamed to id cs)
      ∙ node_of-renamed to id keeps (flat_map (λ (c : Collection). c.nodes) cs) key)))
