-- How places, slots and firings show the rows, and what is always true of them. No public clause cites this module.
use Rattle.std.specs.Prelude.{◌≡◌, ◌≢◌, ℕ, ◌<◌, Bool, true, false, if◌then◌else◌, List, map, length, Option, Some, None, unwrap_or, IsSomeAnd, slice_index_or}
use Rattle.std.specs.Bool.{OnTrue}
use Rattle.std.specs.List.{AllByRecursion}
use Rattle.sm_names.specs.declared.tracking.Condition.{Condition}
use Rattle.sm_names.specs.declared.tracking.Fired.{Fired}
use Rattle.trackers.specs.Row.{TrackerRow, Over, WaitingRow, row_of_waiting}
use Rattle.trackers.specs.Held.{IdsRise}
use Rattle.trackers.specs.declared.place.Place.{Place}
use Rattle.trackers.specs.declared.place.Stage.{Stage}
use Rattle.trackers.specs.declared.place.Stage.TheVariants.{InSlot, Untaken, Taken}

-- slots by their numbers
abbrev pub Slots : Type 0
Slots = List (Option WaitingRow)

-- what is in the slot of this number
abbrev pub slot_at : Slots → ℕ → Option WaitingRow
slot_at slots number = slice_index_or slots number None

-- a row for an empty slot, of which there is none
abbrev pub no_row : WaitingRow
no_row = record {
  tracker = record { id = 0; collection = 0; condition = Condition.Node (record { slot = 0; generation = 0 }) };
  cell = 0;
  has_reader = false;
}

-- the firing at this place, or one of no tracker behind the last
abbrev pub firing_or_none : List Fired → ℕ → Fired
firing_or_none fired number = slice_index_or fired number (record { tracker = 0; event = 0 })

-- the row in a slot
abbrev pub row_in : Option WaitingRow → TrackerRow
row_in slot = row_of_waiting (unwrap_or slot no_row)

-- the row of a tracker that fired, with the name of its cell, and whether its reader is still here
abbrev pub row_over : ℕ → Bool → Fired → TrackerRow
row_over name has_reader fired = record { id = fired.tracker; cell = name; state = Over fired.event; has_reader = has_reader }

-- the row of a tracker at this stage, with this number of its slot or its firing
abbrev pub row_as : Slots → List Fired → ℕ → ℕ → Stage → TrackerRow
row_as slots fired number name InSlot = row_in (slot_at slots number)
row_as slots fired number name Untaken = row_over name true (firing_or_none fired number)
row_as slots fired number name (Taken was_set) = row_over name false (firing_or_none fired number)

-- a tracker at this stage has its row in a slot
abbrev pub in_slot : Stage → Bool
in_slot InSlot = true
in_slot Untaken = false
in_slot (Taken was_set) = false

-- the row of a place
abbrev pub row_at : Slots → List Fired → Place → TrackerRow
row_at slots fired place = row_as slots fired place.number place.note.cell place.stage

-- the rows of these places
abbrev pub rows_of : Slots → List Fired → List Place → List TrackerRow
rows_of slots fired places = map (row_at slots fired) places

-- the slot of this number has a row with the cell of this name, or there are more firings than the number. Of a cell that
-- the firing set, that firing is known
abbrev pub IsKept : Slots → List Fired → ℕ → ℕ → Option Fired → Stage → Type 0
IsKept slots fired number name known InSlot = IsSomeAnd (slot_at slots number) (λ (row : WaitingRow). row.cell ≡ name)
IsKept slots fired number name known Untaken = number < length fired
IsKept slots fired number name known (Taken was_set) =
    (number < length fired) × OnTrue was_set (known ≡ Some (firing_or_none fired number))

-- what the place names is there
abbrev pub IsKeptAt : Slots → List Fired → Place → Type 0
IsKeptAt slots fired place = IsKept slots fired place.number place.note.cell place.note.known place.stage

-- what holds of all rows: what each place names is there, and the ids rise
pub record RowsInvariant (slots : Slots) (fired : List Fired) (places : List Place) : Type 0 where
  pub kept : AllByRecursion (IsKeptAt slots fired) places
  pub rising : IdsRise (rows_of slots fired places)

-- the slots but that of this place have what they had
abbrev pub Leaves : Slots → Slots → Place → Type 0
Leaves old new place = (number : ℕ) → (place.stage ≡ InSlot → number ≢ place.number) → slot_at new number ≡ slot_at old number

-- the slot of the place has a row with the cell that the place names
abbrev pub IsHere : Slots → Place → Type 0
IsHere slots place = IsSomeAnd (slot_at slots place.number) (λ (row : WaitingRow). row.cell ≡ place.note.cell)

-- the place is one of a tracker that fired so, by whether its reader is still here. If not, what its cell holds is known: this
-- firing, if that set the cell
pub record IsFiredAt (has_reader : Bool) (firing : Fired) (place : Place) : Type 0 where
  pub was_set : Bool
  pub stage_is : place.stage ≡ (if has_reader then Untaken else Taken was_set)
  pub told : OnTrue was_set (place.note.known ≡ Some firing)
  pub held : Fired
  pub known : has_reader ≡ false → place.note.known ≡ Some held

-- the place names this slot, and this cell
pub record Names (place : Place) (number name : ℕ) : Type 0 where
  pub number_is : place.number ≡ number
  pub stage_is : place.stage ≡ InSlot
  pub cell_is : place.note.cell ≡ name
