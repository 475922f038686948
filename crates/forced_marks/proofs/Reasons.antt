-- Each node that a loss takes has a reason: it is the highest that the failure climbed to, or its parent is taken.
use Rattle.forced_marks.proofs.Common.{AreSound, Birth, Bool, List, NodeKey, None, Some, Timeline, [], ancestors, births, blocked}
use Rattle.forced_marks.proofs.Common.{both_ways, cond, either_way, false, find, gone, inl, inr, is_at_or_below, list_any, option_map_or}
use Rattle.forced_marks.proofs.Common.{or_left, or_right, parent_of, refl, same_key, same_key-refl, same_key-true, top, true, ◌∷◌, ◌≡◌}
use Rattle.forced_marks.proofs.Common.{◌⊎◌}
use Rattle.sm_names.specs.Losses.{reaches}
use Rattle.history_laws.proofs.ReachLaws.{ancestors_on}
use Rattle.forced_marks.specs.Explanations.{climb, last_or}

-- the way ends at the top
pub climb_ends : (blocks : NodeKey → Bool) (first node : NodeKey) (above : List NodeKey) →
    last_or first (climb blocks node above) ≡ top blocks node above
climb_ends blocks first node [] = refl
climb_ends blocks first node (p ∷ above) =
    elim (blocks node) as (λ (b : Bool). last_or first (cond b (node ∷ []) (node ∷ climb blocks p above))
    ≡ cond b node (top blocks p above)) [
      | true ↦ refl
      | false ↦ climb_ends blocks node p above
    ]

-- a node at or below the highest is that one, or a child of another such node
pub reason_below : (marks : Timeline) → AreSound (births marks) →
    ((child parent : NodeKey) → parent_of marks child ≡ Some parent → gone marks parent ≡ true → gone marks child ≡ true) →
    (highest node p : NodeKey) → is_at_or_below (births marks) highest node ≡ true →
    gone marks node ≡ false → parent_of marks node ≡ Some p →
    (highest ≡ node) ⊎ ((is_at_or_below (births marks) highest p ≡ true) × (gone marks p ≡ false))
reason_below marks sound below highest node p takes here on =
    let line : ancestors (births marks) node ≡ p ∷ ancestors (births marks) p = ancestors_on (births marks) node p sound on in
    elim (either_way (same_key highest node)) [
      | inl e ↦ inl (same_key-true highest node e)
      | inr e ↦ inr (rw (e, line) at takes, alive (either_way (gone marks p)))
    ]
  where
    -- by cases: where the parent is gone, so is the node
    alive : (gone marks p ≡ true) ⊎ (gone marks p ≡ false) → gone marks p ≡ false
    alive (inl not_kept) = absurd (both_ways (gone marks node) (below node p on not_kept) here)
    alive (inr living) = living

-- so a node that a loss takes is the top, or hangs on one that is taken too
pub reason : (marks : Timeline) → AreSound (births marks) →
    ((child parent : NodeKey) → parent_of marks child ≡ Some parent → gone marks parent ≡ true → gone marks child ≡ true) →
    (origin node p : NodeKey) → reaches marks origin node ≡ true → gone marks node ≡ false → parent_of marks node ≡ Some p →
    (top (blocked marks) origin (ancestors (births marks) origin) ≡ node) ⊎ ((reaches marks origin p ≡ true) × (gone marks p ≡ false))
reason marks sound below origin node p takes here on =
    reason_below marks sound below (top (blocked marks) origin (ancestors (births marks) origin)) node p takes here on

-- a node without a parent has nothing above
none_above : (bs : List Birth) (node : NodeKey) →
    option_map_or (λ (b : Birth). b.parent) (find (λ (b : Birth). same_key b.node node) bs) None ≡ None →
    ancestors bs node ≡ []
none_above [] node none = refl
none_above (b ∷ older) node none =
    (elim (same_key b.node node) as (λ (here : Bool).
    option_map_or (λ (x : Birth). x.parent) (cond here (Some b) (find (λ (x : Birth). same_key x.node node) older)) None ≡ None →
    cond here (option_map_or (λ parent. parent ∷ ancestors older parent) b.parent []) (ancestors older node) ≡ []) [
      | true ↦ λ e. rw e refl
      | false ↦ λ e. none_above older node e
    ]) none

-- so it is the highest itself
pub root_reason : (marks : Timeline) (highest node : NodeKey) → is_at_or_below (births marks) highest node ≡ true →
    parent_of marks node ≡ None → highest ≡ node
root_reason marks highest node takes none =
    let line : ancestors (births marks) node ≡ [] = none_above (births marks) node none in
    elim (either_way (same_key highest node)) [
      | inl e ↦ same_key-true highest node e
      | inr e ↦ let bad : false ≡ true = rw (e, line) at takes in absurd (cc)
    ]

-- the top is on the way
pub top_on_way : (blocks : NodeKey → Bool) (node : NodeKey) (above : List NodeKey) →
    list_any (same_key (top blocks node above)) (climb blocks node above) ≡ true
top_on_way blocks node [] = or_left (same_key node node) false (same_key-refl node)
top_on_way blocks node (p ∷ above) =
    elim (blocks node) as (λ (b : Bool). list_any (same_key (cond b node (top blocks p above)))
    (cond b (node ∷ []) (node ∷ climb blocks p above)) ≡ true) [
      | true ↦ or_left (same_key node node) false (same_key-refl node)
      | false ↦ or_right (same_key (top blocks p above) node) (list_any (same_key (top blocks p above)) (climb blocks p above))
          (top_on_way blocks p above)
    ]
