-- A climb and then a walk down find what a failure takes, and nothing else.
use Rattle.failure_domains.proofs.Common.{Bool, Climb, Contains, IsForest, IsWalk, List, NodeKey, None, Origin, Reach, Some, Table, Up}
use Rattle.failure_domains.proofs.Common.{ap, arith, blocked_at, children_at, depth_at, flat_map, get_or, inl, inr, length, parent_at}
use Rattle.failure_domains.proofs.Common.{subst, suc, sym, way_up, zero, ℕ, ◌+◌, ◌<◌, ◌↔◌, ◌∙◌, ◌∷◌, ◌≡◌, ◌≤◌, ◌⊎◌}
use Rattle.sm_names.specs.Losses.{Down}
use Rattle.failure_domains.proofs.Layers.{begins, brings, source}
use Rattle.failure_domains.proofs.Climbs.{climb_depth, climb_reaches, climb_descends, way_up-open}
use Rattle.failure_domains.proofs.Descents.{walk_ends}

module _ {N : Type 0} (blocks : N → Bool) (t : Table N) (forest : IsForest t)
    (origin top : NodeKey) (steps : ℕ) (climb : Climb (parent_at t) (blocked_at blocks t) origin top steps)
    (keys : List NodeKey) (walk : IsWalk (children_at t) (depth_at t) top (length keys) keys) where
  -- the keys are the top and the children of each
  whole : keys ≡ top ∷ flat_map (children_at t) keys
  whole = walk_ends t top (children_at t) (length keys) keys walk (omega arith)

  -- a child of a key is a key
  has_child : (above child : NodeKey) → Contains keys above → parent_at t child ≡ Some above → Contains keys child
  has_child above child there parent = brings (children_at t) top keys whole above child there ((forest.linked above child).0 parent)

  -- so is the origin, which lies below the top
  has_origin : Contains keys origin
  has_origin = climb_descends blocks t forest origin (Contains keys) has_child top steps climb
      (begins (children_at t) top keys whole)

  -- a key is the top, or a child of a key
  key_source : (key : NodeKey) → Contains keys key →
      (top ≡ key) ⊎ ((above : NodeKey) × Contains keys above × (parent_at t key ≡ Some above))
  key_source key there =
      elim (source (children_at t) top keys whole key there) [
        | inl first ↦ inl first
        | inr x ↦ inr (x.0, x.1, (forest.linked x.0 key).1 x.2)
      ]

  -- each key is taken: the top by the climb, and the others with their parents
  key_is_taken : (most : ℕ) (key : NodeKey) → depth_at t key < most → Contains keys key →
      Reach (parent_at t) (blocked_at blocks t) origin key
  key_is_taken zero key deep there = absurd (omega arith)
  key_is_taken (suc most) key deep there =
      elim (key_source key there) [
        | inl first ↦ subst (λ k. Reach (parent_at t) (blocked_at blocks t) origin k) first
            (climb_reaches blocks t forest origin top steps climb)
        | inr x ↦
            let deeper : depth_at t key ≡ depth_at t x.0 + 1 = forest.deeper x.0 key x.2 in
            Down x.0 key (key_is_taken most x.0 (omega arith) x.1) x.2
      ]

  -- the climb is shorter than the list
  pub climb_is_short : steps < length keys
  climb_is_short =
      let there : Contains keys origin = has_origin in
      let deep : depth_at t origin ≡ steps + depth_at t top = climb_depth blocks t forest origin top steps climb in
      let high : depth_at t (get_or keys there.0 origin) ≤ depth_at t top + there.0 =
      walk.high there.0 origin there.1 in
      let here : depth_at t (get_or keys there.0 origin) ≡ depth_at t origin = ap (depth_at t) there.2 in
      let within : there.0 < length keys = there.1 in
      omega arith

  module _ (ends : way_up blocks t top ≡ None) where
    -- what is taken is a key: nothing propagates up from the top, and all else stays below it
    taken_is_key : (key : NodeKey) → Reach (parent_at t) (blocked_at blocks t) origin key → Contains keys key
    taken_is_key _ Origin = has_origin
    taken_is_key _ (Up child above reach open_link parent) =
        elim (key_source child (taken_is_key child reach)) [
          | inl first ↦
              let goes : way_up blocks t child ≡ Some above =
              way_up-open blocks t forest child above open_link parent in
              let stays : way_up blocks t child ≡ None = subst (λ k. way_up blocks t k ≡ None) first ends in
              absurd (let no : None ≡ Some above = sym stays ∙ goes in cc)
          | inr x ↦
              let same : Some x.0 ≡ Some above = sym x.2 ∙ parent in
              let one : x.0 ≡ above = cc in
              subst (λ k. Contains keys k) one x.1
        ]
    taken_is_key _ (Down above child reach parent) = has_child above child (taken_is_key above reach) parent

    -- the keys are what a failure takes
    pub keys_are_taken : (key : NodeKey) → Contains keys key ↔ Reach (parent_at t) (blocked_at blocks t) origin key
    keys_are_taken key = (key_is_taken (depth_at t key + 1) key (omega arith), taken_is_key key)
