-- Lines of parents, and heads of units, in a collection that is whole.
use Rattle.forest_steps.proofs.Common.{◌≡◌, ◌≤◌, true, false, List, ◌∷◌, length, reverse, Option, Some, NodeKey, In}
use Rattle.forest_steps.proofs.Common.{Node, is_left_of, Collection, IsWhole, is_head, IsChain, above_among, is_below}
use Rattle.forest_steps.proofs.Common.{zero, suc, ◌<◌, arith, either_way, left_parent, ap, sym, ◌∙◌, inl, inr, ℕ}
use Rattle.forest_store.proofs.tallies.Holding.{has_parent}
use Rattle.forest_store.proofs.tallies.Holding

module _ {c : Collection} (whole : IsWhole c) where
  -- the parent of a key
  abbrev pub up : NodeKey → Option NodeKey
  up = Holding.up c.nodes whole.sound.distinct whole.sound.heads whole.rooted whole.united

  -- the keys above it
  abbrev pub line : NodeKey → List NodeKey
  line = above_among (reverse c.nodes)

  -- the line leads from parent to parent
  pub chain : (key : NodeKey) → is_left_of c.nodes key ≡ true → IsChain up key (line key)
  chain = Holding.chain c.nodes whole.sound.distinct whole.sound.heads whole.rooted whole.united

  -- a node's line continues as its parent's
  pub step : (n : Node) → In n c.nodes → n.gone ≡ false → {p : NodeKey} → n.parent ≡ Some p → line n.key ≡ p ∷ line p
  step n on here {p} = Holding.step c.nodes whole.sound.distinct whole.sound.heads whole.rooted whole.united n on here p

  -- from a key in the line the line continues as above that key
  pub shorter : (a b : NodeKey) → is_left_of c.nodes a ≡ true → is_left_of c.nodes b ≡ true → is_below c.nodes a b ≡ true →
      length (line a) ≤ length (line b)
  shorter a b left_a left_b = Holding.no_longer up a b (line b) (line a) (chain b left_b) (chain a left_a)

  -- each node lies below itself
  pub below_self : (key : NodeKey) → is_below c.nodes key key ≡ true
  below_self = Holding.below_self c.nodes whole.sound.distinct whole.sound.heads whole.rooted whole.united

  -- what is above the parent is above the node
  pub below_parent : (top : NodeKey) (n : Node) → In n c.nodes → n.gone ≡ false → {p : NodeKey} → n.parent ≡ Some p →
      is_below c.nodes top p ≡ true → is_below c.nodes top n.key ≡ true
  below_parent top n on here {p} =
      Holding.below_parent c.nodes whole.sound.distinct whole.sound.heads whole.rooted whole.united top n on here p

  -- what lies below what lies below lies below
  pub below_through : (a b k : NodeKey) → is_left_of c.nodes k ≡ true → is_left_of c.nodes b ≡ true → is_below c.nodes b k ≡ true →
      is_below c.nodes a b ≡ true → is_below c.nodes a k ≡ true
  below_through = Holding.below_through c.nodes whole.sound.distinct whole.sound.heads whole.rooted whole.united

  -- a node with the key of one that is left is not gone
  pub still_here : (q : Node) → In q c.nodes → is_left_of c.nodes q.key ≡ true → q.gone ≡ false
  still_here = Holding.still_here c.nodes whole.sound.distinct whole.sound.heads whole.rooted whole.united

  -- a head heads its own unit
  pub own_head : (n : Node) → In n c.nodes → is_head n ≡ true → n.head ≡ n.key
  own_head = Holding.own_head c.nodes whole.sound.distinct whole.sound.heads whole.rooted whole.united

  -- a node that is no head shares its unit with its parent
  pub shared : (n : Node) → In n c.nodes → n.gone ≡ false → is_head n ≡ false → {p : NodeKey} → n.parent ≡ Some p →
      (q : Node) × In q c.nodes × (q.key ≡ p) × (q.head ≡ n.head)
  shared n on here h {p} = Holding.shared c.nodes whole.sound.distinct whole.sound.heads whole.rooted whole.united n on here h p

  -- each node lies at or below the head of its unit
  pub in_unit_below : (n : Node) → In n c.nodes → n.gone ≡ false → is_below c.nodes n.head n.key ≡ true
  in_unit_below = Holding.in_unit_below c.nodes whole.sound.distinct whole.sound.heads whole.rooted whole.united

  -- the head of its unit is there, and left
  pub head_there : (n : Node) → In n c.nodes → n.gone ≡ false →
      (h : Node) × In h c.nodes × (h.key ≡ n.head) × (h.gone ≡ false) × (is_head h ≡ true)
  head_there = Holding.head_there c.nodes whole.sound.distinct whole.sound.heads whole.rooted whole.united

  -- by induction on the line above the node: what holds of each head, and of a node where it holds of its parent, holds of each
  pub by_unit : (P : Node → Type 0) → ((n : Node) → In n c.nodes → n.gone ≡ false → is_head n ≡ true → P n) →
      ((n x : Node) → In n c.nodes → n.gone ≡ false → is_head n ≡ false → In x c.nodes →
      n.parent ≡ Some x.key → x.head ≡ n.head → P x → P n) →
      (n : Node) → In n c.nodes → n.gone ≡ false → P n
  by_unit P head child n on here = from (suc (length (line n.key))) n on here (omega arith)
    where
      from : (fuel : ℕ) (m : Node) → In m c.nodes → m.gone ≡ false → length (line m.key) < fuel → P m
      from zero m on here few = absurd (omega arith)
      from (suc fuel) m on here few = elim (either_way (is_head m)) [
        | inl e ↦ head m on here e
        | inr e ↦
            let p = has_parent c.nodes whole.sound.distinct whole.sound.heads whole.rooted whole.united m e in
            let x = shared m on here e p.1 in
            let above : m.parent ≡ Some x.0.key = p.1 ∙ ap Some (sym x.2) in
            let left : is_left_of c.nodes x.0.key ≡ true = left_parent _ whole.rooted m _ on here above in
            let long : length (line m.key) ≡ length (x.0.key ∷ line x.0.key) = ap length (step m on here above) in
            child m x.0 on here e x.1 above x.3 (from fuel x.0 x.1 (still_here x.0 x.1 left) (omega arith))
      ]
