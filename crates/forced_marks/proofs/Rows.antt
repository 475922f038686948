-- The rows of nodes that propagate a mark to their children: each taken node stands in one, below its parent.
use Rattle.forced_marks.proofs.Common.{AreSound, Birth, Cause, Handing, In-filter, In-list_any, In-map, In-reverse-back, List, Loss}
use Rattle.forced_marks.proofs.Common.{NodeKey, None, Option, Some, Timeline, [], ancestors, and_left, and_right, ap, arith, births}
use Rattle.forced_marks.proofs.Common.{blocked, either_way, false, gone, inl, inr, is_at_or_below, length, list_any, lt-ltb, nat_lt, not}
use Rattle.forced_marks.proofs.Common.{not-true, option_map_or, parent_of, refl, reverse, same_key, same_key-refl, same_key-true}
use Rattle.forced_marks.proofs.Common.{some-injective, subst, sym, top, true, ◌&&◌, ◌∙◌, ◌∷◌, ◌≡◌, ◌⊎◌}
use Rattle.sm_names.specs.Losses.{takes}
use Rattle.sm_names.specs.Marks.{Ended}
use Rattle.sm_names.proofs.ListLaws.{In, In-filter-back, In-map-back}
use Rattle.history_laws.proofs.ReachLaws.{parent_born}
use Rattle.history_laws.proofs.StandingLaws.{and_both}
use Rattle.forced_marks.specs.Explanations.{Moment, handed, handings, taken_at, way_of_loss}
use Rattle.forced_marks.proofs.Reasons.{reason_below, root_reason, top_on_way}

-- ---- rows of any nodes

-- the parent is this one
parent_is : (o : Option NodeKey) (above : NodeKey) → option_map_or (same_key above) o false ≡ true → o ≡ Some above
parent_is None above h = cc
parent_is (Some p) above h = ap Some (sym (same_key-true above p h))

-- and the other way round
is_parent : (o : Option NodeKey) (above : NodeKey) → o ≡ Some above → option_map_or (same_key above) o false ≡ true
is_parent o above e = rw e (same_key-refl above)

module _ (marks : Timeline) (way taken : List NodeKey) where
  -- whoever hands it on was taken, and its row has all that it hands it to
  pub row_is : (h : Handing) → In h (handings marks way taken) →
      In h.above taken × (h ≡ record { above = h.above; below = handed marks way taken h.above })
  row_is h on =
      let f = In-filter (λ (x : Handing). nat_lt 0 (length x.below)) _ h on in
      let m = In-map (λ node. record { above = node; below = handed marks way taken node }) taken h f.0 in
      let same : m.0 ≡ h.above = ap (λ (x : Handing). x.above) (sym m.2) in (
        subst (λ (k : NodeKey). In k taken) same m.1,
        m.2 ∙ ap
            (λ (k : NodeKey). record { above = k; below = handed marks way taken k }) same,
      )

  -- what is handed on was taken, hangs on whoever hands it on, and is not on the way
  pub below_is : (above node : NodeKey) → In node (handed marks way taken above) →
      In node taken × (parent_of marks node ≡ Some above) × (list_any (same_key node) way ≡ false)
  below_is above node on =
      let f = In-filter (λ node. option_map_or (same_key above) (parent_of marks node) false && not
      (list_any (same_key node) way)) taken node on in (
        f.0,
        parent_is (parent_of marks node) above (and_left (option_map_or (same_key above) (parent_of marks node) false) _ f.1),
        not-true (list_any (same_key node) way) (and_right (option_map_or (same_key above) (parent_of marks node) false) _ f.1),
      )

  -- some element makes a list longer than none
  longer : (xs : List NodeKey) (x : NodeKey) → In x xs → nat_lt 0 (length xs) ≡ true
  longer [] x on = absurd on
  longer (y ∷ ys) x on = lt-ltb 0 (length (y ∷ ys)) (omega arith)

  -- a node that was taken, as its parent was, and that is not on the way stands in a row
  pub has_row : (node above : NodeKey) → In node taken → In above taken → parent_of marks node ≡ Some above →
      list_any (same_key node) way ≡ false → (h : Handing) × In h (handings marks way taken) × In node h.below
  has_row node above on up parent off =
      let below : In node (handed marks way taken above) =
      In-filter-back (λ k. option_map_or (same_key above) (parent_of marks k) false && not (list_any (same_key k) way)) taken node on
      (and_both (is_parent (parent_of marks node) above parent) (ap not off)) in
      let row : Handing = record { above = above; below = handed marks way taken above } in (
        row,
        In-filter-back (λ (x : Handing). nat_lt 0 (length x.below)) _ row
            (In-map-back (λ k. record { above = k; below = handed marks way taken k }) taken above up)
            (longer (handed marks way taken above) node below),
        below,
      )

  -- and in no other
  pub one_row : (h k : Handing) (node : NodeKey) → In h (handings marks way taken) → In k (handings marks way taken) →
      In node h.below → In node k.below → h ≡ k
  one_row h k node h_on k_on h_has k_has =
      let a = row_is h h_on in
      let b = row_is k k_on in
      let in_a = below_is h.above node (subst (λ (x : Handing). In node x.below) a.1 h_has) in
      let in_b = below_is k.above node (subst (λ (x : Handing). In node x.below) b.1 k_has) in
      let same : h.above ≡ k.above = some-injective h.above k.above (sym in_a.1 ∙ in_b.1) in
      a.1 ∙ (ap (λ (x : NodeKey). record { above = x; below = handed marks way taken x }) same ∙ sym b.1)

-- ---- what a mark takes

-- a node that a mark takes was born, is taken, and was not gone
pub taken_is : (m : Moment) (node : NodeKey) → In node (taken_at m) → (takes m.before m.mark node ≡ true) × (gone m.before node ≡ false)
taken_is m node on =
    let b = In-map (λ (b : Birth). b.node) _ node on in
    let f = In-filter (λ (b : Birth). takes m.before m.mark b.node && not (gone m.before b.node)) (reverse (births m.before)) b.0 b.1 in (
      subst (λ (k : NodeKey). takes m.before m.mark k ≡ true) (sym b.2) (and_left (takes m.before m.mark b.0.node) _ f.1),
      subst (λ (k : NodeKey). gone m.before k ≡ false) (sym b.2)
          (not-true (gone m.before b.0.node) (and_right (takes m.before m.mark b.0.node) _ f.1)),
    )

-- and the other way round
pub is_taken_at : (m : Moment) (b : Birth) → In b (births m.before) → takes m.before m.mark b.node ≡ true → gone m.before b.node ≡ false →
    In b.node (taken_at m)
is_taken_at m b on takes here =
    In-map-back (λ (b : Birth). b.node) _ b
    (In-filter-back _ (reverse (births m.before)) b (In-reverse-back (births m.before) b on) (and_both takes (ap not here)))

module _ (marks : Timeline) (sound : AreSound (births marks))
    (below : (child parent : NodeKey) → parent_of marks child ≡ Some parent → gone marks parent ≡ true → gone marks child ≡ true) where
  -- the parent of a node was born
  parent_birth : (node p : NodeKey) → parent_of marks node ≡ Some p → (b : Birth) × In b (births marks) × (b.node ≡ p)
  parent_birth node p on =
      let found = In-list_any (λ (b : Birth). same_key b.node p) (births marks) (parent_born (births marks) node p sound on) in
      (found.0, found.1, same_key-true found.0.node p found.2)

  -- a node that a loss takes is on the way, or stands in a row
  pub loss_row : (origin : NodeKey) (cause : Cause) (node : NodeKey) →
      let m : Moment = record { mark = Loss origin cause; before = marks } in
      In node (taken_at m) →
      (list_any (same_key node) (way_of_loss m) ≡ true)
      ⊎ ((h : Handing) × In h (handings marks (way_of_loss m) (taken_at m)) × In node h.below)
  loss_row origin cause node on = from (parent_of marks node) refl
    where
      m : Moment
      m = record { mark = Loss origin cause; before = marks }

      highest : NodeKey
      highest = top (blocked marks) origin (ancestors (births marks) origin)

      is : (takes marks (Loss origin cause) node ≡ true) × (gone marks node ≡ false)
      is = taken_is m node on

      at_top : highest ≡ node → list_any (same_key node) (way_of_loss m) ≡ true
      at_top e = subst (λ (k : NodeKey). list_any (same_key k) (way_of_loss m) ≡ true) e
          (top_on_way (blocked marks) origin (ancestors (births marks) origin))

      from : (o : Option NodeKey) → parent_of marks node ≡ o →
          (list_any (same_key node) (way_of_loss m) ≡ true)
          ⊎ ((h : Handing) × In h (handings marks (way_of_loss m) (taken_at m)) × In node h.below)
      from None none = inl (at_top (root_reason marks highest node is.0 none))
      from (Some p) parent = elim (either_way (list_any (same_key node) (way_of_loss m))) [
        | inl e ↦ inl e
        | inr off ↦ elim (reason_below marks sound below highest node p is.0 is.1 parent) [
          | inl e ↦ inl (at_top e)
          | inr up ↦
              let b = parent_birth node p parent in
              let p_on : In p (taken_at m) = subst (λ (k : NodeKey). In k (taken_at m)) b.2
              (is_taken_at m b.0 b.1 (subst (λ (k : NodeKey). is_at_or_below (births marks) highest k ≡ true) (sym b.2) up.0)
              (subst (λ (k : NodeKey). gone marks k ≡ false) (sym b.2) up.1)) in
              inr (has_row marks (way_of_loss m) (taken_at m) node p on p_on parent off)
        ]
      ]

  -- and one that an end takes is its top, or stands in a row
  pub end_row : (head node : NodeKey) → let m : Moment = record { mark = Ended head; before = marks } in In node (taken_at m) →
      (head ≡ node) ⊎ ((h : Handing) × In h (handings marks (way_of_loss m) (taken_at m)) × In node h.below)
  end_row head node on = from (parent_of marks node) refl
    where
      m : Moment
      m = record { mark = Ended head; before = marks }

      is : (takes marks (Ended head) node ≡ true) × (gone marks node ≡ false)
      is = taken_is m node on

      from : (o : Option NodeKey) → parent_of marks node ≡ o →
          (head ≡ node) ⊎ ((h : Handing) × In h (handings marks (way_of_loss m) (taken_at m)) × In node h.below)
      from None none = inl (root_reason marks head node is.0 none)
      from (Some p) parent = elim (reason_below marks sound below head node p is.0 is.1 parent) [
        | inl e ↦ inl e
        | inr up ↦
            let b = parent_birth node p parent in
            let p_on : In p (taken_at m) = subst (λ (k : NodeKey). In k (taken_at m)) b.2
            (is_taken_at m b.0 b.1 (subst (λ (k : NodeKey). is_at_or_below (births marks) head k ≡ true) (sym b.2) up.0)
            (subst (λ (k : NodeKey). gone marks k ≡ false) (sym b.2) up.1)) in
            inr (has_row marks (way_of_loss m) (taken_at m) node p on p_on parent refl)
      ]
