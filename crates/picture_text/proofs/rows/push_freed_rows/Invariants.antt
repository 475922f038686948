use Rattle.std.proofs.Common.{◌≡◌, ◌++◌, take}
use Rattle.std.specs.List.{flat_map}
use Rattle.script_labels.specs.Names.{Names}
use Rattle.script_labels.specs.Tables.{Keeps}
use Rattle.picture_text.specs.TextPictures.{freed_row}
use Rattle.picture_text.proofs.rows.push_freed_rows.Given as goal

-- those so far
abbrev pub invariant-loop-buffer : goal.invariant-loop-buffer
invariant-loop-buffer l = (names : Names) → Keeps l.event_writer.session.tables names →
    l.text.items ≡ l.initial.text.items ++ flat_map (freed_row names l.width) (take l.buffer-index l.freed)
