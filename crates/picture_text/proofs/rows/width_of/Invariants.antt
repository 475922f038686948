use Rattle.std.proofs.Common.{◌≡◌, take}
use Rattle.script_labels.specs.Names.{Names}
use Rattle.script_labels.specs.Tables.{Keeps}
use Rattle.event_texts.specs.Called.{Calls}
use Rattle.picture_text.specs.TextPictures.{widest_row}
use Rattle.picture_text.proofs.rows.width_of.Given as goal

-- the widest so far
abbrev pub invariant-loop-row : goal.invariant-loop-row
invariant-loop-row l = (names : Names) → Keeps l.event_writer.session.tables names → Calls l.event_writer.labels names →
    l.width ≡ widest_row names (take l.row-index l.rows.items)
