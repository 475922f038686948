-- What an event does to the forest, before ends are spent.
use Rattle.core_state.proofs.Common.{Change, Collection, Forest, Handles, In, In-any, In-append, In-find, In-front, IsAmid, IsSound, List}
use Rattle.core_state.proofs.Common.{Node, NodeKey, Option, Rise, Settled, Some, [], all_nodes, ap, beside, both_ways, collection_at}
use Rattle.core_state.proofs.Common.{collection_or_new, eq-eqb, false, flat_map, given_back, inl, inr, is_of, is_some, is_some-find}
use Rattle.core_state.proofs.Common.{no_key, node_at, refl, same_key, same_key-refl, same_key-true, subst, sym, true, unwrap_or, ℕ, ◌==◌}
use Rattle.core_state.proofs.Common.{◌∙◌, ◌∷◌, ◌≡◌, ◌⊎◌}
use Rattle.sm_names.proofs.ListLaws.{In-behind}
use Rattle.forest_store.proofs.tallies.Slots.{or_new_id}
use Rattle.core_state.proofs.forced.Fitting.{Keeps, event_keeps}
use Rattle.core_state.proofs.collections.ById.{ids, found_by_id, put_from, put_rises, put_there}

-- a node of all collections is one of some collection
pub node_in : (cs : List Collection) (n : Node) → In n (flat_map (λ (c : Collection). c.nodes) cs) → (c : Collection) × In c cs ×
    In n c.nodes
node_in [] n there = absurd there
node_in (c ∷ cs) n there = elim (In-append c.nodes (flat_map (λ (d : Collection). d.nodes) cs) n there) [
  | inl here ↦ (c, inl refl, here)
  | inr on ↦ let d = node_in cs n on in (d.0, inr d.1, d.2)
]

-- and the other way round
pub in_all_nodes : (cs : List Collection) (c : Collection) (n : Node) → In c cs → In n c.nodes →
    In n (flat_map (λ (d : Collection). d.nodes) cs)
in_all_nodes [] c n c_on n_in = absurd c_on
in_all_nodes (d ∷ cs) c n (inl is) n_in = In-front d.nodes _ n (subst (λ (x : Collection). In n x.nodes) is n_in)
in_all_nodes (d ∷ cs) c n (inr on) n_in = In-behind d.nodes _ n (in_all_nodes cs c n on n_in)

-- the node with a key, in its collection
pub node_with_key : (f : Forest) (key : NodeKey) (n : Node) → node_at f key ≡ Some n → (c : Collection) × In c f.collections ×
    In n c.nodes × (n.key ≡ key)
node_with_key f key n is =
    let found = In-find (is_of key) (all_nodes f) n is in
    let c = node_in f.collections n found.0 in
    (c.0, c.1, c.2, same_key-true n.key key found.1)

-- a node with this key is found
pub key_is_there : (f : Forest) (c : Collection) (n : Node) (key : NodeKey) → In c f.collections → In n c.nodes → n.key ≡ key →
    is_some (node_at f key) ≡ true
key_is_there f c n key c_on n_in is =
    is_some-find (is_of key) (all_nodes f)
    ∙ In-any (is_of key) (all_nodes f) n (in_all_nodes f.collections c n c_on n_in) (subst (λ (k : NodeKey).
    same_key n.key k ≡ true) is (same_key-refl n.key))

-- the end that is about to be spent, if one is, is of a node of the collection
abbrev pub IsThere : Forest → ℕ → Option NodeKey → Type 0
IsThere f id leaving = (key : NodeKey) → leaving ≡ Some key → (c : Collection) × (n : Node) × In c f.collections × In n c.nodes ×
    (n.key ≡ key) × (c.id ≡ id)

-- so it is of no other
alone_there : (f : Forest) (id : ℕ) (leaving : Option NodeKey) → IsSound f → IsThere f id leaving → (key : NodeKey) → leaving ≡ Some key →
    (c : Collection) → In c f.collections → (c.id == id) ≡ false → (n : Node) → In n c.nodes → n.key ≡ key → ⊥
alone_there f id leaving sound there key is c on apart n n_in keyed =
    let old = there key is in
    both_ways (c.id == id) (eq-eqb c.id id (sound.apart c old.0 on old.2 n old.1 n_in old.3 (keyed ∙ sym old.4) ∙ old.5)) apart

-- nothing was changed yet
pub amid_same : (f : Forest) (id : ℕ) (leaving : Option NodeKey) → IsSound f → IsThere f id leaving → IsAmid f id leaving
amid_same f id leaving sound there = record {
  rising = sound.rising;
  tidy = λ c on apart. sound.tidy c on;
  there = there;
  alone = alone_there f id leaving sound there;
}

module _ (pool : ℕ) (handles : Handles) (f worked : Forest) (id : ℕ) (change : Change) (key : Option NodeKey) (leaving : Option NodeKey)
    (sound : IsSound f) (there : IsThere f id leaving) (settled : Settled pool handles f worked id change key) where
  -- the collection, once all is done
  abbrev new : Collection
  new = given_back handles settled.after

  -- what became of the collection
  keeps : Keeps (collection_or_new f id) settled.after
  keeps = event_keeps pool handles (beside f id) change (unwrap_or key no_key) (collection_or_new f id) settled.after settled.settles

  -- it has the same id
  new_id : new.id ≡ id
  new_id = keeps.same_id ∙ or_new_id f id

  -- each collection is this one or was there before
  worked_from : (c : Collection) → In c worked.collections → (c ≡ new) ⊎ In c f.collections
  worked_from c on = put_from new f.collections c (subst (In c) settled.collections on)

  -- each other was there before
  other_from : (c : Collection) → In c worked.collections → (c.id == id) ≡ false → In c f.collections
  other_from c on apart = elim (worked_from c on) [
    | inl is ↦ both_ways (c.id == id) (eq-eqb c.id id (ap (λ (x : Collection). x.id) is ∙ new_id)) apart
    | inr old ↦ old
  ]

  -- the end that is about to be spent is still there
  still_there : IsThere worked id leaving
  still_there k is =
      let old = there k is in
      let found : collection_at f id ≡ Some old.0 = found_by_id f.collections old.0 id sound.rising old.2 old.5 in
      let n_in : In old.1 (collection_or_new f id).nodes = rw found old.3 in
      let m = keeps.keys old.1 n_in in
      (new, m.0, subst (In new) (sym settled.collections) (put_there new f.collections), m.1, m.2 ∙ old.4, new_id)

  -- the forest in the midst of the event
  pub amid_settled : IsAmid worked id leaving
  amid_settled = record {
    rising = subst (λ (cs : List Collection). Rise (ids cs)) (sym settled.collections) (put_rises new f.collections sound.rising);
    tidy = λ c on apart. sound.tidy c (other_from c on apart);
    there = still_there;
    alone = λ k is c on apart. alone_there f id leaving sound there k is c (other_from c on apart) apart;
  }
