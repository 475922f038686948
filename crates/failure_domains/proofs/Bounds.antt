-- A walk down within a bound: it visits children alone, and lists the nodes within the bound.
use Rattle.failure_domains.proofs.Common.{AllPairs, Bool, Contains, IsForest, IsWalk, List, NodeKey, None, Option, Some, Table, [], ap}
use Rattle.failure_domains.proofs.Common.{arith, children_at, children_within, depth_at, false, flat_map, get_or, inl, inr, length}
use Rattle.failure_domains.proofs.Common.{parent_at, refl, subst, suc, sym, take, true, zero, ℕ, ◌+◌, ◌<◌, ◌↔◌, ◌∙◌, ◌∷◌, ◌≡◌, ◌≢◌}
use Rattle.std.proofs.Common.{◌&&◌, not, if◌then◌else◌}
use Rattle.std.specs.Option.{option_map_or}
use Rattle.sm_names.specs.Sameness.{same_key}
use Rattle.sm_names.proofs.SamenessLaws.{same_key-refl}
use Rattle.node_table.specs.Table.{node_at}
use Rattle.failure_domains.specs.Falls.{stopped_at, Within, Top, Below}
use Rattle.failure_domains.proofs.Layers.{begins, brings, source}
use Rattle.failure_domains.proofs.Descents.{walk_ends}

-- none of the children, or all
given_if : (stopped : Bool) (ks : List NodeKey) (child : NodeKey) → Contains (if stopped then [] else ks) child →
    (stopped ≡ false) × Contains ks child
given_if true ks child there = absurd (omega (arith, there.1))
given_if false ks child there = (refl, there)

-- distinct keys stay distinct where a stop leaves none of them
apart_if : (stopped : Bool) (ks : List NodeKey) → AllPairs (λ (a b : NodeKey). a ≢ b) ks →
    AllPairs (λ (a b : NodeKey). a ≢ b) (if stopped then [] else ks)
apart_if true ks apart = λ i j d before within. absurd (omega (arith, within))
apart_if false ks apart = apart

-- nothing stops where nothing is a stop
none_stops : {N : Type 0} (b : Bool) (o : Option N) → (b && option_map_or (λ _. false) o false) ≡ false
none_stops true None = refl
none_stops true (Some n) = refl
none_stops false o = refl

-- without a bound the walk visits each child
pub all_within : {N : Type 0} (t : Table N) (top : NodeKey) → children_within (λ _. false) t top ≡ children_at t
all_within t top = λ i key. if none_stops (not (same_key key top)) (node_at t key) i then [] else children_at t key

module _ {N : Type 0} (stops : N → Bool) (t : Table N) (top : NodeKey) where
  -- the children to which the walk continues from a key: none if it stops there
  abbrev down : NodeKey → List NodeKey
  down = children_within stops t top

  -- whether the walk stops at a key: it is not the top, and its node is a stop
  abbrev stopped : NodeKey → Bool
  stopped = stopped_at stops t top

  -- each node that the walk visits is a child
  pub within_fewer : (parent child : NodeKey) → Contains (down parent) child → Contains (children_at t parent) child
  within_fewer parent child there = (given_if (stopped parent) (children_at t parent) child there).1

  -- the first key is the top, where the walk starts; so what is known after any key is known from then on
  pub first_goes_on : (K : Type 0) (taken : ℕ) (keys : List NodeKey) → keys ≡ top ∷ flat_map down (take taken keys) → (key : NodeKey) →
      key ≡ get_or keys taken key → (0 < taken → K) → (stopped key ≡ false → K) → K
  first_goes_on K zero keys layers key is before after =
      let first : key ≡ top = is ∙ ap (λ ks. get_or ks 0 key) layers in
      let own : same_key key top ≡ true = ap (λ k. same_key k top) first ∙ same_key-refl top in
      after (ap (λ b. not b && option_map_or stops (node_at t key) false) own)
  first_goes_on K (suc taken) keys layers key is before after = before (omega arith)

  module _ (forest : IsForest t) where
    -- each once
    pub within_apart : (key : NodeKey) → AllPairs (λ (a b : NodeKey). a ≢ b) (down key)
    within_apart key = apart_if (stopped key) (children_at t key) (forest.once key)

    module _ (keys : List NodeKey) (walk : IsWalk down (depth_at t) top (length keys) keys) where
      -- a finished walk lists the top, and the children to which it continues from each listed key
      whole : keys ≡ top ∷ flat_map down keys
      whole = walk_ends t top down (length keys) keys walk (omega arith)

      -- each key lies within the bound
      key_is_within : (most : ℕ) (key : NodeKey) → depth_at t key < most → Contains keys key → Within (parent_at t) stopped top key
      key_is_within zero key deep there = absurd (omega arith)
      key_is_within (suc most) key deep there =
          elim (source down top keys whole key there) [
            | inl first ↦ subst (λ k. Within (parent_at t) stopped top k) first Top
            | inr x ↦
                let given = given_if (stopped x.0) (children_at t x.0) key x.2 in
                let parent : parent_at t key ≡ Some x.0 = (forest.linked x.0 key).1 given.1 in
                let deeper : depth_at t key ≡ depth_at t x.0 + 1 = forest.deeper x.0 key parent in
                Below x.0 key (key_is_within most x.0 (omega arith) x.1) given.0 parent
          ]

      -- and what does is a key
      within_is_key : (key : NodeKey) → Within (parent_at t) stopped top key → Contains keys key
      within_is_key _ Top = begins down top keys whole
      within_is_key _ (Below above child reach goes parent) =
          brings down top keys whole above child (within_is_key above reach)
          (subst (λ (b : Bool). Contains (if b then [] else children_at t above) child) (sym goes) ((forest.linked above child).0 parent))

      -- the walk lists exactly the keys that lie within the bound
      pub keys_are_within : (key : NodeKey) → Contains keys key ↔ Within (parent_at t) stopped top key
      keys_are_within key = (key_is_within (depth_at t key + 1) key (omega arith), within_is_key key)
