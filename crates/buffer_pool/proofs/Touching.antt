-- The hole at a spot that touches pages.
use Rattle.buffer_pool.proofs.Common.{Bool, HasIntervalAt, Interval, List, [], all_in, drop, drop_more, end_of, eqb-true, false}
use Rattle.buffer_pool.proofs.Common.{first_begins, first_ends, get_or, length, refl, set, spot_index, subst, sym, true, ℕ, ◌<◌, ◌≡◌}
use Rattle.std.proofs.Common.{All, length-set}
use Rattle.std.proofs.lemmas.List.Elements.{All-get_or}
use Rattle.buffer_pool.specs.declared.blocks.Spot.{Spot}
use Rattle.buffer_pool.specs.Rows.{IsNextOrEnd}
use Rattle.buffer_pool.proofs.Spaces.{first_within}
use Rattle.buffer_pool.proofs.Joins.{same-size}

module _ (L : List (List Interval)) (spot : Spot) where
  -- a hole lies at the spot where a test holds that no hole at all fails
  pub there_if : (test : List Interval → Bool) → test [] ≡ false → IsNextOrEnd L spot → test (drop (spot_index L spot) (all_in L)) ≡ true →
      HasIntervalAt L spot
  there_if test none next some = next.taken (first_within test (spot_index L spot) (all_in L) none some)

  module _ (page : ℕ) (hole : Interval) (is : hole ≡ get_or (all_in L) (spot_index L spot) hole) where
    -- the hole at the spot ends at the page where the first behind the place does, since it is the first
    pub ends_there : first_ends page (drop (spot_index L spot) (all_in L)) ≡ true → end_of hole ≡ page
    ends_there some =
        let lt = first_within (first_ends page) (spot_index L spot) (all_in L) refl some in
        eqb-true _ _ (rw (rw (sym is) at (drop_more (all_in L) (spot_index L spot) hole lt)) at some)

    -- the same where it begins
    pub begins_there : first_begins page (drop (spot_index L spot) (all_in L)) ≡ true → hole.start ≡ page
    begins_there some =
        let lt = first_within (first_begins page) (spot_index L spot) (all_in L) refl some in
        eqb-true _ _ (rw (rw (sym is) at (drop_more (all_in L) (spot_index L spot) hole lt)) at some)

    -- what holds of all holes holds of it
    pub holds_there : (P : Interval → Type 0) → (test : List Interval → Bool) → test [] ≡ false →
        test (drop (spot_index L spot) (all_in L)) ≡ true → All P (all_in L) → P hole
    holds_there P test none some all =
        subst P (sym is) (All-get_or P (all_in L) (spot_index L spot) hole (first_within test (spot_index L spot) (all_in L) none some) all)

  -- a hole that was there is there after another was changed, since each block is as long as it was
  pub still_there : (at : Spot) (hole : Interval) → HasIntervalAt L at →
      HasIntervalAt (set L spot.block (set (get_or L spot.block []) spot.offset hole)) at
  still_there at hole there = (
    rw (length-set L spot.block (set (get_or L spot.block []) spot.offset hole)) there.0,
    rw (same-size L spot.block at.block (set (get_or L spot.block []) spot.offset hole)
        (length-set (get_or L spot.block []) spot.offset hole))
        there.1,
  )
