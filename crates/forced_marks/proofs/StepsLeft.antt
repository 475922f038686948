-- Each forced step leaves fewer to be made.
use Rattle.forced_marks.proofs.Common.{Allocates, Bool, Cause, Collection, Decision, Ends, Failure, Fault, In-list_any, Interval, IsStep}
use Rattle.forced_marks.proofs.Common.{List, Loses, Mark, Node, NodeKey, Places, [], above_among, after_allocation, after_end, after_loss}
use Rattle.forced_marks.proofs.Common.{and_left, and_right, ap, arith, blocks_here, ended, false, given_buffers, inl, inr, is_below}
use Rattle.forced_marks.proofs.Common.{is_none, is_of, is_taken, list_any, lost, made, map, mark_of, not, not-true, or_left, or_right}
use Rattle.forced_marks.proofs.Common.{outcome, pages_of, places, refl, reverse, same_key, same_key-refl, same_key-true, subst, sym, true}
use Rattle.forced_marks.proofs.Common.{when, ℕ, ◌&&◌, ◌+◌, ◌<◌, ◌∙◌, ◌∷◌, ◌≡◌, ◌≤◌, ◌⊎◌}
use Rattle.sm_names.specs.Elements.{In}
use Rattle.sm_names.proofs.ChainLaws.{top_on}
use Rattle.forest_store.specs.Decisions.{has_waiting, is_left_of}
use Rattle.forced_marks.proofs.Takings.{found_in, highest_of, taken_found}

-- one, where it is still to come
abbrev pub open_one : Bool → ℕ
open_one true = 0
open_one false = 1

-- how many steps there may be: each node fails or ends at most once, and gets buffers at most once
abbrev pub steps_left : List Node → ℕ
steps_left [] = 0
steps_left (n ∷ ns) = (open_one n.gone + open_one n.allocated) + steps_left ns

-- a node that is gone or allocated stays so
record Advances (f : Node → Node) : Type 0 where
  gone : (n : Node) → n.gone ≡ true → (f n).gone ≡ true
  allocated : (n : Node) → n.allocated ≡ true → (f n).allocated ≡ true

-- what happens to the node is one of the steps
abbrev Changes : (Node → Node) → Node → Type 0
Changes f n = ((n.gone ≡ false) × ((f n).gone ≡ true)) ⊎ ((n.allocated ≡ false) × ((f n).allocated ≡ true))

-- what stays so is counted no more than before
fewer : (a b : Bool) → (b ≡ true → a ≡ true) → open_one a ≤ open_one b
fewer true b h = omega arith
fewer false false h = omega arith
fewer false true h = let bad : false ≡ true = h refl in absurd (cc)

-- and what becomes so is counted no longer
less : (a b : Bool) → b ≡ false → a ≡ true → open_one a + 1 ≡ open_one b
less a b was is = rw (was, is) refl

module _ (f : Node → Node) (on : Advances f) where
  -- no node adds a step
  no_more : (n : Node) → open_one (f n).gone + open_one (f n).allocated ≤ open_one n.gone + open_one n.allocated
  no_more n =
      let a = fewer (f n).gone n.gone (on.gone n) in
      let b = fewer (f n).allocated n.allocated (on.allocated n) in
      omega (arith, a, b)

  -- and all of them none
  none_more : (ns : List Node) → steps_left (map f ns) ≤ steps_left ns
  none_more [] = omega arith
  none_more (n ∷ ns) =
      let here = no_more n in
      let rest = none_more ns in
      omega (arith, here, rest)

  -- a node that changes takes one away
  one_less : (n : Node) → Changes f n → open_one (f n).gone + open_one (f n).allocated < open_one n.gone + open_one n.allocated
  one_less n (inl gone) =
      let a = less (f n).gone n.gone gone.0 gone.1 in
      let b = fewer (f n).allocated n.allocated (on.allocated n) in
      omega (arith, a, b)
  one_less n (inr allocated) =
      let a = fewer (f n).gone n.gone (on.gone n) in
      let b = less (f n).allocated n.allocated allocated.0 allocated.1 in
      omega (arith, a, b)

  -- so where some node changes there are fewer
  falls : (ns : List Node) (n : Node) → In n ns → Changes f n → steps_left (map f ns) < steps_left ns
  falls (m ∷ ns) n (inl is) change =
      let here = one_less m (subst (Changes f) is change) in
      let rest = none_more ns in
      omega (arith, here, rest)
  falls (m ∷ ns) n (inr there) change =
      let here = no_more m in
      let rest = falls ns n there change in
      omega (arith, here, rest)
  falls [] n there change = absurd there

-- a loss takes the node where it begins
loss_falls : (fault : Fault) (nodes : List Node) → is_left_of nodes fault.origin ≡ true →
    steps_left (after_loss fault nodes) < steps_left nodes
loss_falls fault nodes left =
    let n = In-list_any (λ n. is_of fault.origin n && not n.gone) nodes left in
    let key : n.0.key ≡ fault.origin = same_key-true n.0.key fault.origin (and_left (is_of fault.origin n.0) (not n.0.gone) n.2) in
    let here : n.0.gone ≡ false = not-true n.0.gone (and_right (is_of fault.origin n.0) (not n.0.gone) n.2) in
    let origin = found_in nodes fault.origin n.0 n.1 (and_left (is_of fault.origin n.0) (not n.0.gone) n.2) in
    let taken : is_taken nodes fault.origin n.0 ≡ true =
    taken_found nodes origin.0 n.0 fault.origin origin.1
    ∙ (ap (is_below nodes (highest_of nodes fault.origin)) key
    ∙ top_on (λ k. list_any (blocks_here k) nodes) fault.origin (above_among (reverse nodes) fault.origin)) in
    falls (lost (is_taken nodes fault.origin) fault)
    (record { gone = λ m h. or_right (is_taken nodes fault.origin m) m.gone h; allocated = λ m h. h })
    nodes n.0 n.1 (inl (here, or_left (is_taken nodes fault.origin n.0) n.0.gone taken))

-- an end its top
end_falls : (top : NodeKey) (nodes : List Node) → is_left_of nodes top ≡ true → steps_left (after_end top nodes) < steps_left nodes
end_falls top nodes left =
    let n = In-list_any (λ n. is_of top n && not n.gone) nodes left in
    let key : n.0.key ≡ top = same_key-true n.0.key top (and_left (is_of top n.0) (not n.0.gone) n.2) in
    let here : n.0.gone ≡ false = not-true n.0.gone (and_right (is_of top n.0) (not n.0.gone) n.2) in
    falls (ended nodes top)
    (record { gone = λ m h. or_right _ m.gone h; allocated = λ m h. h })
    nodes n.0 n.1 (inl (here, or_left _ n.0.gone (or_left _ _ (ap (same_key top) key ∙ same_key-refl top))))

-- and an allocation gives some node of its unit its buffers
allocation_falls : (head : NodeKey) (nodes : List Node) → has_waiting nodes head ≡ true →
    steps_left (after_allocation head nodes) < steps_left nodes
allocation_falls head nodes waits =
    let n = In-list_any (λ (n : Node). same_key head n.head && (not n.gone && not n.allocated)) nodes waits in
    let ours : same_key head n.0.head ≡ true = and_left (same_key head n.0.head) _ n.2 in
    let bare : n.0.allocated ≡ false =
    not-true n.0.allocated (and_right (not n.0.gone) (not n.0.allocated) (and_right (same_key head n.0.head) _ n.2)) in
    falls (given_buffers head)
    (record { gone = λ m h. h; allocated = λ m h. or_right (same_key head m.head) m.allocated h })
    nodes n.0 n.1 (inr (bare, or_left (same_key head n.0.head) n.0.allocated ours))

-- so each step that is made leaves fewer
pub step_falls : (pool : ℕ) (others held : List Interval) (c : Collection) (step : Decision) → IsStep c step → (mark : Mark) →
    mark ≡ mark_of pool held step → steps_left (made pool others mark c).nodes < steps_left c.nodes
step_falls pool others held c (Ends top) is mark e =
    subst (λ (m : Mark). steps_left (made pool others m c).nodes < steps_left c.nodes) (sym e) (end_falls top c.nodes is)
step_falls pool others held c (Loses origin cause) is mark e =
    subst (λ (m : Mark). steps_left (made pool others m c).nodes < steps_left c.nodes) (sym e)
    (loss_falls (record { cause = cause; origin = origin }) c.nodes is)
step_falls pool others held c (Allocates head) is mark e =
    subst (λ (m : Mark). steps_left (made pool others m c).nodes < steps_left c.nodes) (sym e)
    (rw is.attached (allocation_falls head c.nodes is.waits))
step_falls pool others held c (Places head wants) is mark e =
    subst (λ (m : Mark). steps_left (made pool others m c).nodes < steps_left c.nodes) (sym e)
    (by (is_none (places pool (pages_of wants.size) wants.count held)))
  where
    -- by cases: a failure takes a node that was left, and an allocation gives buffers to one that had none
    by : (full : Bool) → steps_left (made pool others (outcome head (when full Failure.PoolFull)) c).nodes < steps_left c.nodes
    by true = loss_falls (record { cause = Cause.Failed Failure.PoolFull; origin = head }) c.nodes is.left
    by false = rw is.root (allocation_falls head c.nodes is.waits)
