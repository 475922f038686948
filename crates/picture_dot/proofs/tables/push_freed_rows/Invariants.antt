use Rattle.picture_dot.proofs.Common.{Keeps, Names, flat_map, freed_row, take, ◌++◌, ◌≡◌}
use Rattle.picture_dot.proofs.tables.push_freed_rows.Given as goal

-- those so far
abbrev pub invariant-loop-buffer : goal.invariant-loop-buffer
invariant-loop-buffer l = (names : Names) → Keeps l.event_writer.session.tables names →
    l.text.items ≡ l.initial.text.items ++ flat_map (freed_row names) (take l.buffer-index l.freed)
