-- What a search among places of rising ids finds.
use Rattle.trackers.proofs.Common.{All-from_recursion, AllByRecursion, Fired, Found, IdsRise, List, NoneHas, Place, Slots, TrackerRow, []}
use Rattle.trackers.proofs.Common.{arith, false, get_or, length, length-map, nat_lt, nat_tests, recursion_from_All, row_at, rows_of}
use Rattle.trackers.proofs.Common.{subst, suc, true, zero, ℕ, ◌<◌, ◌∷◌, ◌≡◌, ◌≢◌, ◌≤◌}
use Rattle.std.specs.List.Sorted.{IsNonDecreasingBy, IsPartitionPoint}
use Rattle.trackers.proofs.SlotLemmas.{get_map, found_there}

-- each id is below those of later rows
rises : (rows : List TrackerRow) → IdsRise rows → (i j : ℕ) (d : TrackerRow) → i ≤ j → j < length rows →
    (get_or rows i d).id ≤ (get_or rows j d).id
rises [] rising i j d le within = absurd (omega arith)
rises (row ∷ rows) rising zero zero d le within = omega arith
rises (row ∷ rows) rising zero (suc j) d le within =
    let below : row.id < (get_or rows j d).id = All-from_recursion (λ (r : TrackerRow). row.id < r.id) rows rising.0 j d (omega arith) in
    omega arith
rises (row ∷ rows) rising (suc i) zero d le within = absurd (omega arith)
rises (row ∷ rows) rising (suc i) (suc j) d le within = rises rows rising.1 i j d (omega arith) (omega arith)

module _ (slots : Slots) (fired : List Fired) (places : List Place) (rising : IdsRise (rows_of slots fired places)) where
  -- the id of a place
  abbrev id_of : Place → ℕ
  id_of q = (row_at slots fired q).id

  -- there are as many rows as places
  as_many : length (rows_of slots fired places) ≡ length places
  as_many = length-map places (row_at slots fired)

  -- the ids do not fall along the places
  pub ids_rise : IsNonDecreasingBy id_of places
  ids_rise i j d le within =
      let up = rises (rows_of slots fired places) rising i j (row_at slots fired d) le (omega (arith, as_many)) in
      rw (get_map (row_at slots fired) places i d, get_map (row_at slots fired) places j d) at up

  module _ (id at : ℕ) (parted : IsPartitionPoint (λ q. nat_lt (id_of q) id ≡ true) (λ q. nat_lt (id_of q) id ≡ false) places at) where
    -- the row at this place has the id
    pub found_id : (place : Place) → get_or places at place ≡ place → at < length places → id_of place ≡ id →
        (row : TrackerRow) × Found id (rows_of slots fired places) at row
    found_id place is within same = (
      row_at slots fired place,
      subst (λ i. Found i (rows_of slots fired places) at (row_at slots fired place)) same
          (found_there slots fired places at place is within rising),
    )

    -- no row has it: those before are less, and the one at this place, if there is one, is greater
    pub none_found : (at < length places → (d : Place) → id_of (get_or places at d) ≢ id) → NoneHas id (rows_of slots fired places)
    none_found other = none_in places (recursion_from_All (λ (q : Place). id_of q ≢ id) places (λ k d within same.
        let before : k < at → id_of (get_or places k d) < id = λ lt.
        let less = parted.0 k d (omega arith) lt in
        grind (arith, nat_tests, less) in
        let behind : at ≤ k → id < id_of (get_or places k d) = λ le.
        let not_less = parted.1 at d (omega arith) (omega (arith, le, within)) in
        let up : id_of (get_or places at d) ≤ id_of (get_or places k d) = ids_rise at k d le within in
        let differ : id_of (get_or places at d) ≢ id = other (omega (arith, le, within)) d in
        grind (arith, nat_tests, not_less, up, differ) in
        grind arith))
      where
        -- what holds of the ids of all places holds of all rows
        none_in : (qs : List Place) → AllByRecursion (λ (q : Place). id_of q ≢ id) qs → NoneHas id (rows_of slots fired qs)
        none_in [] all = tt
        none_in (q ∷ qs) all = (all.0, none_in qs all.1)
