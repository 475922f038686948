-- What the firing of one row leaves.
use Rattle.trackers.proofs.Common.{Bool, Fired, InSlot, IsKept, IsKeptAt, IsSomeAnd, List, None, OnTrue, Option, Over, Place}
use Rattle.trackers.proofs.Common.{RowsInvariant, Slots, Some, Stage, Taken, TrackerRow, Untaken, WaitingRow, [], ap, arith, false}
use Rattle.trackers.proofs.Common.{firing_or_none, get_or, if◌then◌else◌, is_waiting, length, length_push, refl, row_as, row_at, row_in}
use Rattle.trackers.proofs.Common.{row_over, rows_of, set, slot_at, subst, sym, true, ℕ, ◌++◌, ◌<◌, ◌∙◌, ◌∷◌, ◌≡◌, ◌≢◌}
use Rattle.std.proofs.lemmas.List.{get_or_push, get_or_append_left}
use Rattle.trackers.specs.Places.{IsHere, IsFiredAt}
use Rattle.trackers.proofs.SlotLemmas.{rows_long, row_there, kept_there, in_slot, at_place}

-- ---- the place after the firing

module _ (slots : Slots) (fired : List Fired) (number name : ℕ) (known : Option Fired) (stage : Stage) (was_set : Bool) where
  -- its row is one that fired, of which the reader is here or was taken
  over_as : (b : Bool) → stage ≡ (if b then Untaken else Taken was_set) →
      row_as slots fired number name stage ≡ row_over name b (firing_or_none fired number)
  over_as true is = ap (row_as slots fired number name) is
  over_as false is = ap (row_as slots fired number name) is

  -- and its firing is there
  over_kept : (b : Bool) → stage ≡ (if b then Untaken else Taken was_set) → number < length fired →
      OnTrue was_set (known ≡ Some (firing_or_none fired number)) → IsKept slots fired number name known stage
  over_kept true is less told = subst (IsKept slots fired number name known) (sym is) less
  over_kept false is less told = subst (IsKept slots fired number name known) (sym is) (less, told)

-- the row of a place in a slot
in_slot_row : (slots : Slots) (fired : List Fired) (number name : ℕ) (stage : Stage) (o : Option WaitingRow) → stage ≡ InSlot →
    slot_at slots number ≡ o → row_as slots fired number name stage ≡ row_in o
in_slot_row slots fired number name stage o stage_is is = ap (row_as slots fired number name) stage_is ∙ ap row_in is

-- the row of a tracker that fired is that of the one that waited, at its event
fired_in : (slots' : Slots) (fired : List Fired) (number' name name' event : ℕ) (known' : Option Fired) (stage' : Stage) (was_set : Bool)
    (firing : Fired) (o : Option WaitingRow) →
    IsSomeAnd o (λ (row : WaitingRow). row.cell ≡ name) → number' ≡ length fired → name' ≡ name →
    stage' ≡ (if (row_in o).has_reader then Untaken else Taken was_set) → OnTrue was_set (known' ≡ Some firing) →
    firing ≡ record { tracker = (row_in o).id; event = event } →
    (row_as slots' (fired ++ firing ∷ []) number' name' stage' ≡ record (row_in o) { state = Over event })
    × IsKept slots' (fired ++ firing ∷ []) number' name' known' stage'
fired_in slots' fired number' name name' event known' stage' was_set firing None here number_is name_is stage_is told firing_is =
    absurd here
fired_in slots' fired number' name name' event known' stage' was_set firing (Some w) here number_is name_is stage_is told firing_is =
    let last : firing_or_none (fired ++ firing ∷ []) number' ≡ firing =
    get_or_push fired firing (record { tracker = 0; event = 0 }) number' (sym number_is) in (
      over_as slots' (fired ++ firing ∷ []) number' name' known' stage' was_set w.has_reader stage_is
          ∙ ap (row_over name' w.has_reader) (last ∙ firing_is)
          ∙ ap (λ n. row_over n w.has_reader (record { tracker = w.tracker.id; event = event })) (name_is ∙ sym here),
      over_kept slots' (fired ++ firing ∷ []) number' name' known' stage' was_set w.has_reader stage_is
          (omega (arith, number_is, length_push fired firing))
          (subst (λ (f : Fired). OnTrue was_set (known' ≡ Some f)) (sym last) told),
    )

-- so it is of places
pub fired_row : (slots slots' : Slots) (fired : List Fired) (place place' : Place) (event : ℕ) (firing : Fired) → IsHere slots place →
    place.stage ≡ InSlot → place'.number ≡ length fired → place'.note.cell ≡ place.note.cell →
    IsFiredAt (row_in (slot_at slots place.number)).has_reader firing place' →
    firing ≡ record { tracker = (row_in (slot_at slots place.number)).id; event = event } →
    (row_at slots' (fired ++ firing ∷ []) place' ≡ record (row_at slots fired place) { state = Over event })
    × IsKeptAt slots' (fired ++ firing ∷ []) place'
fired_row slots slots' fired place place' event firing here in_slot number_is cell_is told firing_is =
    let both = fired_in slots' fired place'.number place.note.cell place'.note.cell event place'.note.known place'.stage told.was_set firing
    (slot_at slots place.number) here number_is cell_is told.stage_is told.told firing_is in (
      both.0 ∙ ap (λ (row : TrackerRow). record row { state = Over event })
          (sym (in_slot_row slots fired place.number place.note.cell place.stage (slot_at slots place.number) in_slot refl)),
      both.1,
    )

-- a place of which the row waits is in its slot
waits_in : (slots : Slots) (fired : List Fired) (number name : ℕ) (stage : Stage) →
    is_waiting (row_as slots fired number name stage) ≡ true → stage ≡ InSlot
waits_in slots fired number name InSlot waits = refl
waits_in slots fired number name Untaken waits = absurd (cc)
waits_in slots fired number name (Taken was_set) waits = absurd (cc)

-- a place that names a firing has a row that is over, so one whose row waits names a slot
pub in_slot_of_waiting : (slots : Slots) (fired : List Fired) (place : Place) →
    is_waiting (row_at slots fired place) ≡ true → place.stage ≡ InSlot
in_slot_of_waiting slots fired place waits = waits_in slots fired place.number place.note.cell place.stage waits

-- the row of a place has the cell that this names
cell_as : (slots : Slots) (fired : List Fired) (number name : ℕ) (known : Option Fired) (stage : Stage) →
    IsKept slots fired number name known stage → (row_as slots fired number name stage).cell ≡ name
cell_as slots fired number name known InSlot kept = cell_in (slot_at slots number) kept
  where
    -- by cases: without a row none has the name
    cell_in : (o : Option WaitingRow) → IsSomeAnd o (λ (row : WaitingRow). row.cell ≡ name) → (row_in o).cell ≡ name
    cell_in (Some row) kept = kept
    cell_in None kept = absurd kept
cell_as slots fired number name known Untaken kept = refl
cell_as slots fired number name known (Taken was_set) kept = refl

-- ---- the rows

module _ (slots : Slots) (fired : List Fired) (places : List Place) (at : ℕ) (place : Place) (is : get_or places at place ≡ place)
    (within : at < length (rows_of slots fired places)) (sound : RowsInvariant slots fired places) where
  -- this many places
  inside : at < length places
  inside = omega (arith, within, rows_long slots fired places)

  -- its row stands there
  pub row_here : (d : TrackerRow) → get_or (rows_of slots fired places) at d ≡ row_at slots fired place
  row_here = row_there slots fired places at place is inside

  -- the place names its cell
  pub cell_here : (row_at slots fired place).cell ≡ place.note.cell
  cell_here = cell_as slots fired place.number place.note.cell place.note.known place.stage
      (kept_there slots fired places at place is inside sound.kept)

  module _ (waits : (d : TrackerRow) → is_waiting (get_or (rows_of slots fired places) at d) ≡ true) where
    -- where the row waits, the place names a slot
    pub names_slot : place.stage ≡ InSlot
    names_slot = in_slot_of_waiting slots fired place (ap is_waiting (sym (row_here (row_at slots fired place)))
        ∙ waits (row_at slots fired place))

    -- with the row in it
    pub slot_here : IsHere slots place
    slot_here = in_slot slots fired place.number place.note.cell place.note.known place.stage
        (kept_there slots fired places at place is inside sound.kept) names_slot

    -- and after the firing that row alone is another
    pub fired_all : (slots' : Slots) (place' : Place) (event : ℕ) (firing : Fired) →
        place'.number ≡ length fired → place'.note.cell ≡ place.note.cell →
        IsFiredAt (row_in (slot_at slots place.number)).has_reader firing place' →
        firing ≡ record { tracker = (row_in (slot_at slots place.number)).id; event = event } →
        ((n : ℕ) → n ≢ place.number → slot_at slots' n ≡ slot_at slots n) →
        (rows_of slots' (fired ++ firing ∷ []) (set places at place')
        ≡ set (rows_of slots fired places) at (record (row_at slots fired place) { state = Over event }))
        × RowsInvariant slots' (fired ++ firing ∷ []) (set places at place')
    fired_all slots' place' event firing number_is cell_is told firing_is others =
        let both = fired_row slots slots' fired place place' event firing slot_here names_slot number_is cell_is told firing_is in
        let all = at_place slots slots' fired (fired ++ firing ∷ []) (omega (arith, length_push fired firing))
        (λ n less. get_or_append_left fired (firing ∷ []) (record { tracker = 0; event = 0 }) n less) place
        (λ n clear. others n (clear names_slot)) places sound at is inside place' both.1 (ap (λ (r : TrackerRow). r.id) both.0) in
        (all.0 ∙ ap (set (rows_of slots fired places) at) both.0, all.1)
