-- Nodes are taken from the counts one after another, each from those of both units at once.
use Rattle.forest_store.proofs.Common.{◌≡◌, ℕ, zero, suc, refl, ap, ◌∙◌, Bool, true, false, List, [], ◌∷◌, set, Option, Some, None}
use Rattle.forest_store.proofs.Common.{if◌then◌else◌, cons_option, NodeKey, Table, Node, Unit, unit_at, nodes_with, is_live_node}
use Rattle.forest_store.proofs.Common.{is_unready, lowered, uncounted_above, uncounted_both, uncounted_own, without_below, without_node}

-- two changes of counts that commute do so at any two slots
changed_both : (A B : Unit → Unit) → ((u : Unit) → A (B u) ≡ B (A u)) → (us : List Unit) (i j : ℕ) →
    set (set us j (B (unit_at us j))) i (A (unit_at (set us j (B (unit_at us j))) i))
    ≡ set (set us i (A (unit_at us i))) j (B (unit_at (set us i (A (unit_at us i))) j))
changed_both A B both [] i j = refl
changed_both A B both (u ∷ us) zero zero = ap (λ (x : Unit). x ∷ us) (both u)
changed_both A B both (u ∷ us) zero (suc j) = refl
changed_both A B both (u ∷ us) (suc i) zero = refl
changed_both A B both (u ∷ us) (suc i) (suc j) = ap (λ (l : List Unit). u ∷ l) (changed_both A B both us i j)

-- a node is counted no longer for its unit, if it is not gone
abbrev one_less : Node → List Unit → List Unit
one_less n us = if n.gone then us else without_node n us

-- the two counts are of different fields, or of different slots
less_both : (n : Node) (o : Option NodeKey) (us : List Unit) → one_less n (without_below o us) ≡ without_below o (one_less n us)
less_both n None us = refl
less_both n (Some h) us = elim n.gone as (λ (b : Bool). (if b then without_below (Some h) us
    else without_node n (without_below (Some h) us)) ≡ without_below (Some h) (if b then us else without_node n us)) [
      | true ↦ refl
      | false ↦ changed_both
          (λ (u : Unit). record { live = lowered (is_live_node n) u.live; unready = lowered (is_unready n) u.unready; below = u.below })
          (λ (u : Unit). record { live = u.live; unready = u.unready; below = lowered true u.below })
          (λ u. refl) us _ h.slot
    ]

-- by induction: one node after another
all_both : (ns : List Node) (o : Option NodeKey) (us : List Unit) →
    uncounted_own ns (without_below o us) ≡ without_below o (uncounted_own ns us)
all_both [] o us = refl
all_both (n ∷ ns) o us = ap (uncounted_own ns) (less_both n o us) ∙ all_both ns o (one_less n us)

-- the first one at once, and then the others
pub unreckoned_on : (t : Table Node) (key : NodeKey) (keys : List NodeKey) (us : List Unit) →
    uncounted_both t (nodes_with t keys) (uncounted_both t (nodes_with t (key ∷ [])) us) ≡ uncounted_both t (nodes_with t (key ∷ keys)) us
unreckoned_on t key keys us = from _
  where
    -- by cases: a key that finds no node unhangs nothing
    from : (o : Option Node) → uncounted_both t (nodes_with t keys) (uncounted_both t (cons_option o []) us)
        ≡ uncounted_both t (cons_option o (nodes_with t keys)) us
    from None = refl
    from (Some n) = ap (uncounted_above t (nodes_with t keys)) (all_both (nodes_with t keys) _ _)
