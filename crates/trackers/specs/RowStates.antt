-- What the fields of a row that waits mean, and what is always true of them. No public clause cites this module.
use Rattle.std.specs.Prelude.{◌≡◌, None, IfSome, is_some}
use Rattle.std.specs.Arc.{arc_value}
use Rattle.once_cell.specs.Once.{cell_name}
use Rattle.trackers.specs.Table.{Reader}
use Rattle.trackers.specs.Row.{WaitingRow}
use Rattle.trackers.specs.declared.row.Row.TheInside.{Inside}

-- a row as the table sees it
abbrev pub row_view : Inside → WaitingRow
row_view row = record { tracker = row.tracker; cell = row.note.cell; has_reader = is_some row.reader }

-- the facts that hold of each row: its cell is the one that the note speaks of, nothing is known of it, and its
-- reader is one of that cell and knows nothing
pub record RowInvariant (row : Inside) : Type 0 where
  pub own : row.note.cell ≡ cell_name (arc_value row.cell)
  pub unknown : row.note.known ≡ None
  pub reader : IfSome row.reader (λ (t : Reader). t ≡ record { tracker = row.tracker.id; cell = row.note.cell; known = None })
