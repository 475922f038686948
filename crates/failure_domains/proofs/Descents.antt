-- A walk down from a top: each step appends the children of one key, and no key comes twice.
use Rattle.failure_domains.proofs.Common.{All, All-append, AllPairs, Contains, Contains-get_or, IsForest, IsWalk, List, NodeKey, Some}
use Rattle.failure_domains.proofs.Common.{Table, [], ap, arith, children_at, depth_at, flat_map, get_or, inl, inr, length, length-append}
use Rattle.failure_domains.proofs.Common.{parent_at, refl, subst, sym, take, ℕ, ◌++◌, ◌+◌, ◌-◌, ◌<◌, ◌∙◌, ◌∷◌, ◌≡◌, ◌≢◌, ◌≤◌}
use Rattle.std.proofs.lemmas.Bool.{cases_lt}
use Rattle.std.proofs.lemmas.List.{flat_map_more, take_more, take-append-le, take_all, get_or_append_left, get_or-append_right}
use Rattle.std.proofs.lemmas.List.{get_or-take, length-take-le, get_or_default}
use Rattle.std.proofs.lemmas.List.Elements.{All-contains}
use Rattle.failure_domains.specs.Falls.{IsByLayers}
use Rattle.failure_domains.proofs.Lists.{AllPairs-append, Contains-cases, flat_map_source}

-- A walk may leave out the children of some keys: each key that it visits is a child.
module _ {N : Type 0} (t : Table N) (top : NodeKey) (down : NodeKey → List NodeKey) where
  -- the keys are the list of a walk down from the top, of which this many were taken
  abbrev Walk : ℕ → List NodeKey → Type 0
  Walk taken keys = IsWalk (down) (depth_at t) top taken keys

  -- a walk that took all of its keys has the children of each
  pub walk_ends : (taken : ℕ) (keys : List NodeKey) → Walk taken keys → length keys ≤ taken → keys ≡ top ∷ flat_map down keys
  walk_ends taken keys walk all = walk.layers ∙ ap (λ ks. top ∷ flat_map down ks) (take_all taken keys all)

  -- so it has them layer by layer
  pub walk_by_layers : (keys : List NodeKey) → Walk (length keys) keys → IsByLayers down keys
  walk_by_layers keys walk =
      let whole : keys ≡ top ∷ flat_map down keys = walk_ends (length keys) keys walk (omega arith) in
      subst (IsByLayers down) (sym whole) (ap (flat_map down) whole)

  module _ (forest : IsForest t) (fewer : (parent child : NodeKey) → Contains (down parent) child → Contains (children_at t parent) child)
      (apart : (key : NodeKey) → AllPairs (λ (a b : NodeKey). a ≢ b) (down key)) where
    -- a key hangs on the one whose child it is
    child_linked : (parent child : NodeKey) → Contains (down parent) child → parent_at t child ≡ Some parent
    child_linked parent child there = (forest.linked parent child).1 (fewer parent child there)

    -- a child lies one layer below its parent
    child_depth : (parent child : NodeKey) → Contains (down parent) child → depth_at t child ≡ depth_at t parent + 1
    child_depth parent child there = forest.deeper parent child (child_linked parent child there)

    -- two parents of one child are one
    same_parent : (one other child : NodeKey) → Contains (down one) child → Contains (down other) child → one ≡ other
    same_parent one other child there elsewhere =
        let first : parent_at t child ≡ Some one = child_linked one child there in
        let second : parent_at t child ≡ Some other = child_linked other child elsewhere in
        cc

    module _ (taken : ℕ) (keys : List NodeKey) (walk : Walk taken keys) (more : taken < length keys) (key : NodeKey)
        (is : get_or keys taken key ≡ key) where
      -- the keys that the next step of the walk appends
      abbrev children : List NodeKey
      children = down key

      -- the key lies no higher than the top, and at most as many layers below it as keys were taken
      above_low : depth_at t top ≤ depth_at t key
      above_low = All-contains (λ k. depth_at t top ≤ depth_at t k) keys key walk.low (taken, more, is)

      -- the key lies at most as many layers below the top as keys were taken
      above_high : depth_at t key ≤ depth_at t top + taken
      above_high = subst (λ k. depth_at t k ≤ depth_at t top + taken) is (walk.high taken key more)

      -- a child of the key is not in the list: only the key itself could have brought it
      child_is_new : (child : NodeKey) → Contains children child → Contains keys child → ⊥
      child_is_new child below there =
          elim (Contains-cases top child (flat_map down (take taken keys))
          (subst (λ ks. Contains ks child) walk.layers there)) [
            | inl first ↦
                let deeper : depth_at t child ≡ depth_at t key + 1 = child_depth key child below in
                let same : depth_at t top ≡ depth_at t child = ap (depth_at t) first in
                let low : depth_at t top ≤ depth_at t key = above_low in
                absurd (omega arith)
            | inr brought ↦
                let source : (x : NodeKey) × Contains (take taken keys) x × Contains (down x) child =
                flat_map_source down (take taken keys) child brought in
                earlier source.0 source.1.0 source.1.1 source.1.2 (same_parent source.0 key child source.2 below)
          ]
        where
          earlier : (other : NodeKey) (place : ℕ) → place < length (take taken keys) →
              get_or (take taken keys) place other ≡ other → other ≡ key → ⊥
          earlier other place within found same =
              let size : length (take taken keys) ≡ taken = length-take-le taken keys walk.within in
              let before : place < taken = omega arith in
              let here : get_or keys place other ≡ other = sym (get_or-take taken keys place other before) ∙ found in
              let now : get_or keys taken other ≡ key = get_or_default keys taken other key more ∙ is in
              walk.once place taken other before more (here ∙ (same ∙ sym now))

      -- they follow the children of the keys before
      step_layers : keys ++ children ≡ top ∷ flat_map down (take (taken + 1) (keys ++ children))
      step_layers =
          let first : take (taken + 1) (keys ++ children) ≡ take (taken + 1) keys =
          take-append-le (taken + 1) keys children (omega arith) in
          let last : take (taken + 1) keys ≡ take taken keys ++ get_or keys taken key ∷ [] =
          take_more keys taken key more in
          let so_far : keys ++ children ≡ (top ∷ flat_map down (take taken keys)) ++ children =
          ap (λ ks. ks ++ children) walk.layers in
          let on : (top ∷ flat_map down (take taken keys)) ++ children
          ≡ top ∷ flat_map down (take taken keys ++ key ∷ []) =
          flat_map_more down (top ∷ []) (take taken keys) key in
          so_far ∙ (on ∙ ap (λ ks. top ∷ flat_map down ks)
          (sym (first ∙ (last ∙ ap (λ k. take taken keys ++ k ∷ []) is))))

      -- and each lies at most one layer below the place before
      step_high : (place : ℕ) (d : NodeKey) → place < length (keys ++ children) →
          depth_at t (get_or (keys ++ children) place d) ≤ depth_at t top + place
      step_high place d within =
          elim (cases_lt place (length keys)) [
            | inl old ↦ rw (get_or_append_left keys children d place old) (walk.high place d old)
            | inr new ↦
                let size : length (keys ++ children) ≡ length keys + length children = length-append keys children in
                let at : get_or (keys ++ children) place d ≡ get_or children (place - length keys) d =
                get_or-append_right keys children (length keys) place d refl new in
                let deeper : depth_at t (get_or children (place - length keys) d) ≡ depth_at t key + 1 =
                child_depth key (get_or children (place - length keys) d)
                (Contains-get_or children (place - length keys) d (omega arith)) in
                let high : depth_at t key ≤ depth_at t top + taken = above_high in
                rw at (omega arith)
          ]

      -- nor does a child of the key lie above the top
      children_low : All (λ k. depth_at t top ≤ depth_at t k) children
      children_low k d within =
          let low : depth_at t top ≤ depth_at t key = above_low in
          let deeper : depth_at t (get_or children k d) ≡ depth_at t key + 1 =
          child_depth key (get_or children k d) (Contains-get_or children k d within) in
          omega arith

      -- the children of the next key are appended
      pub walk_steps : Walk (taken + 1) (keys ++ children)
      walk_steps =
          record {
            layers = step_layers;
            within = omega (arith, length-append keys children);
            once = AllPairs-append (λ (a b : NodeKey). a ≢ b) keys children walk.once (apart key)
                (λ a b in_keys below same. child_is_new b below (subst (λ k. Contains keys k) same in_keys));
            low = All-append (λ k. depth_at t top ≤ depth_at t k) keys children walk.low children_low;
            high = step_high;
          }
