-- What a contract sees of the trackers, and of one that was taken.
use Rattle.std.specs.Prelude.{◌≡◌, ℕ, Bool, ◌==◌, not, List, [], ◌∷◌, ◌++◌, map, Option, unwrap_or}
use Rattle.std.specs.List.{filter, find, list_any}
use Rattle.std.specs.Option.{option_map}
use Rattle.sm_names.specs.declared.tracking.Fired.{Fired}
use Rattle.sm_names.specs.Trackers.{World, holds}
use Rattle.trackers.specs.declared.waiting.Waiting.{Waiting}

-- a tracker that was handed out: its id, the name of its cell, and the firing that it knows
pub record Reader : Type 0 where
  pub tracker : ℕ
  pub cell : ℕ
  pub known : Option Fired

-- the cell of a tracker, by its name
pub record Cell : Type 0 where
  pub id : ℕ
  pub name : ℕ

-- all trackers: how many may wait; the cells of all, those that wait and those still to be taken, each by rising
-- id; and the firings in their order
pub record TrackerTable : Type 0 where
  pub limit : ℕ
  pub cells : List Cell
  pub unfired : List Waiting
  pub untaken : List ℕ
  pub fired : List Fired

-- no trackers
abbrev pub empty : ℕ → TrackerTable
empty limit = record { limit = limit; cells = []; unfired = []; untaken = []; fired = [] }

-- what the tracker waits for holds in this world
abbrev pub is_due : World → Waiting → Bool
is_due world tracker = holds world tracker.condition

-- the firing of the tracker at this event
abbrev pub firing : ℕ → Waiting → Fired
firing event tracker = record { tracker = tracker.id; event = event }

-- the firings at this event of those whose condition holds in this world, by rising id
abbrev pub firings : World → ℕ → List Waiting → List Fired
firings world event unfired = map (firing event) (filter (is_due world) unfired)

-- those whose condition does not hold in this world
abbrev pub still_waiting : World → List Waiting → List Waiting
still_waiting world unfired = filter (λ tracker. not (is_due world tracker)) unfired

-- the firing of the tracker with this id, if it fired
abbrev pub firing_of : List Fired → ℕ → Option Fired
firing_of fired id = find (λ (f : Fired). f.tracker == id) fired

-- the name of the cell of the tracker with this id, if it was attached
abbrev pub cell_of : List Cell → ℕ → Option ℕ
cell_of cells id = option_map (λ (c : Cell). c.name) (find (λ (c : Cell). c.id == id) cells)

-- the reader of the tracker with this id is still to be taken
abbrev pub is_untaken : List ℕ → ℕ → Bool
is_untaken untaken id = list_any (λ i. i == id) untaken

-- the ids but this one
abbrev pub without_id : List ℕ → ℕ → List ℕ
without_id untaken id = filter (λ i. not (i == id)) untaken

-- the tracker with this id waits
abbrev pub is_unfired : List Waiting → ℕ → Bool
is_unfired unfired id = list_any (λ (t : Waiting). t.id == id) unfired

-- the table without the trackers that fired: their firings, their cells, and those of their readers that were still to be taken
abbrev pub forgetful : TrackerTable → TrackerTable
forgetful table = record table {
  cells = filter (λ (c : Cell). is_unfired table.unfired c.id) table.cells;
  untaken = filter (is_unfired table.unfired) table.untaken;
  fired = [];
}

-- a reader of the tracker with this id, which knows the firing if there was one
abbrev pub reader_of : TrackerTable → ℕ → Reader
reader_of table id = record { tracker = id; cell = unwrap_or (cell_of table.cells id) 0; known = firing_of table.fired id }

-- the table gained a tracker that waits, with a cell of its own, and that is to be taken
pub record Attaches (old new : TrackerTable) (tracker : Waiting) : Type 0 where
  pub name : ℕ
  pub next : new ≡ record old {
    cells = old.cells ++ record { id = tracker.id; name = name } ∷ [];
    unfired = old.unfired ++ tracker ∷ [];
    untaken = old.untaken ++ tracker.id ∷ [];
  }
