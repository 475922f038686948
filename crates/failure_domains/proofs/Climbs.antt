-- A climb: the failure reaches each node on it, and it counts the links.
use Rattle.failure_domains.proofs.Common.{Bool, Climb, IsForest, IsSome, List, NodeKey, None, Option, Origin, Reach, Some, Start, Step}
use Rattle.failure_domains.proofs.Common.{Table, Up, [], ap, arith, blocked_at, cond, count_by, depth_at, false, is_some, links_climbed}
use Rattle.failure_domains.proofs.Common.{next_at, parent_at, refl, row-then, row_at, slice_index_or, suc, sum_by-cons, table_len, true}
use Rattle.failure_domains.proofs.Common.{way_up, zero, ℕ, ◌+◌, ◌<◌, ◌==◌, ◌∙◌, ◌∷◌, ◌≡◌, ◌≤◌}
use Rattle.failure_domains.specs.Falls.{links_within}

-- a slot that has something is counted
count-there : {X : Type 0} (slots : List (Option X)) (slot : ℕ) → IsSome (slice_index_or slots slot None) →
    0 < count_by is_some slots
count-there [] slot there = absurd (cc)
count-there (first ∷ rest) zero there = rw (sum_by-cons (λ o. cond (is_some o) 1 0) first rest, there) (omega arith)
count-there (first ∷ rest) (suc slot) there =
    let some : 0 < count_by is_some rest = count-there rest slot there in
    rw (sum_by-cons (λ o. cond (is_some o) 1 0) first rest) (omega arith)

-- a table with a node is not empty
pub table_len-there : {N : Type 0} (t : Table N) (key : NodeKey) → IsSome (row_at t key) → 0 < table_len t
table_len-there t key there =
    count-there t.rows key.slot
    (row-then (next_at t key.slot == key.generation + 1) (slice_index_or t.rows key.slot None) there)

-- a way that leads on is open
open_link : (blocked : Bool) (parent : Option NodeKey) (above : NodeKey) → cond blocked None parent ≡ Some above →
    (blocked ≡ false) × (parent ≡ Some above)
open_link true parent above goes = absurd (cc)
open_link false parent above goes = (refl, goes)

module _ {N : Type 0} (blocks : N → Bool) (t : Table N) (forest : IsForest t) where
  -- the way up of a node leads to its parent, over an open link
  pub way_up-Some : (key above : NodeKey) → way_up blocks t key ≡ Some above →
      (blocked_at blocks t key ≡ false) × (parent_at t key ≡ Some above)
  way_up-Some key above goes = open_link (blocked_at blocks t key) (parent_at t key) above goes

  -- and an open link leads to the parent
  pub way_up-open : (key above : NodeKey) → blocked_at blocks t key ≡ false → parent_at t key ≡ Some above →
      way_up blocks t key ≡ Some above
  way_up-open key above open_link parent = rw open_link parent

  -- a failure counts no more links than it may
  pub links_within-most : (most : ℕ) (key : NodeKey) → links_within blocks t most key ≤ most
  links_within-most zero key = omega arith
  links_within-most (suc most) key = by_way (links_within-most most) (way_up blocks t key) refl
    where
      by_way : ((k : NodeKey) → links_within blocks t most k ≤ most) → (way : Option NodeKey) →
          way_up blocks t key ≡ way → links_within blocks t (suc most) key ≤ suc most
      by_way fewer None is = rw is (omega arith)
      by_way fewer (Some above) is =
          let few : links_within blocks t most above ≤ most = fewer above in
          rw is (omega arith)

  -- no link leads up from a top
  pub links_climbed-top : (top : NodeKey) → way_up blocks t top ≡ None → links_climbed blocks t top ≡ 0
  links_climbed-top top ends = by_depth (depth_at t top)
    where
      by_depth : (most : ℕ) → links_within blocks t most top ≡ 0
      by_depth zero = refl
      by_depth (suc most) = rw ends refl

  -- one link more from below a node
  links_climbed-step : (below above : NodeKey) → way_up blocks t below ≡ Some above →
      links_climbed blocks t below ≡ suc (links_climbed blocks t above)
  links_climbed-step below above goes =
      let deeper : depth_at t below ≡ depth_at t above + 1 =
      forest.deeper above below (way_up-Some below above goes).1 in
      let deep : depth_at t below ≡ suc (depth_at t above) = omega arith in
      ap (λ most. links_within blocks t most below) deep ∙ (rw goes refl)

  module _ (origin : NodeKey) where
    -- a climb of this many steps from the origin to the top, over links that nothing blocks
    abbrev IsClimb : NodeKey → ℕ → Type 0
    IsClimb top steps = Climb (parent_at t) (blocked_at blocks t) origin top steps

    -- each step climbs one link
    pub climb_depth : (top : NodeKey) (steps : ℕ) → IsClimb top steps → depth_at t origin ≡ steps + depth_at t top
    climb_depth _ _ Start = omega arith
    climb_depth _ _ (Step below above steps path open_link parent) =
        let deep : depth_at t origin ≡ steps + depth_at t below = climb_depth below steps path in
        let deeper : depth_at t below ≡ depth_at t above + 1 = forest.deeper above below parent in
        omega arith

    -- each step climbs a link
    pub climb_links : (top : NodeKey) (steps : ℕ) → IsClimb top steps →
        links_climbed blocks t origin ≡ steps + links_climbed blocks t top
    climb_links _ _ Start = omega arith
    climb_links _ _ (Step below above steps path open_link parent) =
        let so_far : links_climbed blocks t origin ≡ steps + links_climbed blocks t below =
        climb_links below steps path in
        let one : links_climbed blocks t below ≡ suc (links_climbed blocks t above) =
        links_climbed-step below above (way_up-open below above open_link parent) in
        omega arith

    -- a failure of the origin takes each node that a climb reaches
    pub climb_reaches : (top : NodeKey) (steps : ℕ) → IsClimb top steps →
        Reach (parent_at t) (blocked_at blocks t) origin top
    climb_reaches _ _ Start = Origin
    climb_reaches _ _ (Step below above steps path open_link parent) =
        Up below above (climb_reaches below steps path) open_link parent

    -- the failure propagates from the top down to every child
    pub climb_descends : (P : NodeKey → Type 0) →
        ((above child : NodeKey) → P above → parent_at t child ≡ Some above → P child) →
        (top : NodeKey) (steps : ℕ) → IsClimb top steps → P top → P origin
    climb_descends P down _ _ Start holds = holds
    climb_descends P down _ _ (Step below above steps path open_link parent) holds =
        climb_descends P down below steps path (down above below holds parent)
