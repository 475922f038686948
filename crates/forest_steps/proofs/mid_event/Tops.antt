-- The highest node that a failure takes stands first of what it takes, and its parent stays.
use Rattle.forest_steps.proofs.Common.{◌≡◌, ◌==◌, refl, ap, sym, ◌∙◌, subst, Bool, true, false, ◌⊎◌, inl, inr, List, [], ◌∷◌}
use Rattle.forest_steps.proofs.Common.{length, Some, arith, find, list_any, option_map_or, NodeKey, same_key, In, both_ways}
use Rattle.forest_steps.proofs.Common.{either_way, false_if, same_key-true, Table, parent_at, Node, is_left_of, IsStored}
use Rattle.forest_steps.proofs.Common.{CollectionRow, nodes_with, Contains-from_any, list_any-from_Contains, flat_map, Up, IsForest}
use Rattle.forest_steps.proofs.Common.{blocked_at, IsTaken, is_below, is_blocking, IsLeft, left_in, left_node, left_parent}
use Rattle.forest_steps.proofs.tables.Upward.{below_self, line, step, shorter, in_unit_below, below_through}
use Rattle.std.specs.List.{Contains}
use Rattle.node_table.specs.Table.{children_at}
use Rattle.failure_domains.specs.Falls.{IsByLayers}
use Rattle.failure_domains.proofs.Lists.{Contains-cases, flat_map_source}
use Rattle.forest_steps.proofs.failures.Ties.{fall_line, highest_at, highest_left, key_equivalence}
use Rattle.forest_steps.proofs.tables.OfRow.{at_key, linked, tied, whole}

module _ {t : Table Node} {ss : List CollectionRow} {s : CollectionRow} (kept : IsStored t ss)
    (found : find (λ (x : CollectionRow). x.id == s.id) ss ≡ Some s) (forest : IsForest t) {origin : NodeKey}
    (left : is_left_of (nodes_with t s.keys) origin ≡ true) {keys : List NodeKey} (taken : IsTaken t origin keys) where
  -- the nodes that the table has under the row's keys
  abbrev nodes : List Node
  nodes = nodes_with t s.keys

  -- whether the failure takes the key
  abbrev falls : NodeKey → Bool
  falls k = list_any (same_key k) keys

  -- the highest node
  pub highest : IsLeft nodes (highest_at (tied kept found) origin)
  highest = left_node _ _ (highest_left (tied kept found) _ left)

  -- the highest node that the failure takes
  abbrev pub top : Node
  top = highest.node

  -- the top is one of the nodes
  pub top_on : In top nodes
  top_on = highest.on

  -- the top is left
  pub top_here : top.gone ≡ false
  top_here = highest.here

  -- what falls lies at or below it
  pub takes_below : (n : Node) → In n nodes → n.gone ≡ false → falls n.key ≡ is_below nodes top.key n.key
  takes_below n on here =
      fall_line (tied kept found) _ left _ taken.fall n on here ∙ ap (λ k. is_below nodes k n.key) (sym highest.is)

  -- the top lies below itself
  top_falls : falls top.key ≡ true
  top_falls =
      takes_below top top_on top_here
      ∙ below_self (whole kept found) top.key

  -- its parent does not
  module _ {p : NodeKey} (up : top.parent ≡ Some p) where
    -- the parent of a node that is left is left
    parent_left : is_left_of nodes p ≡ true
    parent_left = left_parent _ (whole kept found).rooted top p top_on top_here up

    -- so it stands in the collection
    pub parent : IsLeft nodes p
    parent = left_node _ p parent_left

    -- the line above the parent is shorter than that above the top
    parent_over : is_below nodes top.key p ≡ false
    parent_over = false_if (is_below nodes top.key p) (λ e.
        let short = shorter (whole kept found) top.key p (left_in nodes top top_on top_here) parent_left e in
        let long : length (line (whole kept found) top.key) ≡ length (p ∷ line (whole kept found) p) =
        ap length (step (whole kept found) top top_on top_here up) in
        absurd (omega arith))

    -- so the failure does not take it
    pub parent_out : falls p ≡ false
    parent_out = grind (arith, parent, parent_over, takes_below)

    -- nor does the head of the unit above
    pub head_out : (h : Node) → In h nodes → h.gone ≡ false → h.key ≡ parent.node.head → falls h.key ≡ false
    head_out h on here is = false_if (falls h.key) (λ e.
        let over : is_below nodes h.key parent.node.key ≡ true =
        subst (λ k. is_below nodes k parent.node.key ≡ true) (sym is)
        (in_unit_below (whole kept found) parent.node parent.on parent.here) in
        let under : is_below nodes top.key parent.node.key ≡ true =
        below_through (whole kept found) top.key h.key parent.node.key (left_in nodes parent.node parent.on parent.here)
        (left_in nodes h on here) over (sym (takes_below h on here) ∙ e) in
        both_ways (is_below nodes top.key parent.node.key) under
        (ap (λ (k : NodeKey). is_below nodes top.key k) parent.is ∙ parent_over))

    -- so the link to it blocks
    pub blocks : is_blocking top ≡ true
    blocks = elim (either_way (is_blocking top)) [
      | inl e ↦ e
      | inr e ↦
          let free : blocked_at is_blocking t top.key ≡ false =
          ap (λ o. option_map_or is_blocking o false) (at_key kept found top top_on) ∙ e in
          both_ways _
          (list_any-from_Contains key_equivalence p keys
          ((taken.fall p).1 (Up top.key p ((taken.fall top.key).0 (Contains-from_any same_key-true _ _ top_falls)) free
          (linked kept found top top_on top_here ∙ up)))) parent_out
    ]

  -- it stands first
  pub stands_first : (rest : List NodeKey) × (keys ≡ top.key ∷ rest)
  stands_first = by keys refl taken.layers
    where
      by : (ks : List NodeKey) → keys ≡ ks → IsByLayers (children_at t) ks → (rest : List NodeKey) × (keys ≡ top.key ∷ rest)
      by [] is layers = absurd layers
      by (k ∷ rest) is layers =
          elim (Contains-cases k top.key rest
          (subst (λ (ks : List NodeKey). Contains ks top.key) is (Contains-from_any same_key-true top.key keys top_falls))) [
            | inl e ↦ (rest, is ∙ ap (λ (x : NodeKey). x ∷ rest) e)
            | inr e ↦
                let from = flat_map_source (children_at t) (k ∷ rest) top.key
                (subst (λ ks. Contains ks top.key) layers e) in
                let link : parent_at t top.key ≡ Some from.0 = (forest.linked from.0 top.key).1 from.2 in
                let up : top.parent ≡ Some from.0 = sym (linked kept found top top_on top_here) ∙ link in
                both_ways (falls from.0)
                (list_any-from_Contains key_equivalence from.0 keys (subst (λ ks. Contains ks from.0) (sym is) from.1))
                (parent_out up)
          ]

  -- of each other the parent falls too
  pub up_falls : (x : Node) → In x nodes → x.gone ≡ false → falls x.key ≡ true →
      (x.key ≡ top.key) ⊎ ((p : NodeKey) × (x.parent ≡ Some p) × (falls p ≡ true))
  up_falls x on here h =
      let first = stands_first in
      elim (Contains-cases top.key x.key first.0
      (subst (λ (ks : List NodeKey). Contains ks x.key) first.1 (Contains-from_any same_key-true x.key keys h))) [
        | inl e ↦ inl (sym e)
        | inr e ↦
            let layers : first.0 ≡ flat_map (children_at t) (top.key ∷ first.0) =
            subst (IsByLayers (children_at t)) first.1 taken.layers in
            let from = flat_map_source (children_at t) (top.key ∷ first.0) x.key
            (subst (λ ks. Contains ks x.key) layers e) in
            inr (
              from.0,
              sym (linked kept found x on here) ∙ (forest.linked from.0 x.key).1 from.2,
              list_any-from_Contains key_equivalence from.0 keys
                  (subst (λ ks. Contains ks from.0) (sym first.1) from.1),
            )
      ]
