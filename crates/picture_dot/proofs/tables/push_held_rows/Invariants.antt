use Rattle.picture_dot.proofs.Common.{Calls, Keeps, Names, flat_map, held_row, take, ◌++◌, ◌≡◌}
use Rattle.picture_dot.proofs.tables.push_held_rows.Given as goal

-- those so far
abbrev pub invariant-loop-buffer : goal.invariant-loop-buffer
invariant-loop-buffer l = (names : Names) → Keeps l.event_writer.session.tables names → Calls l.event_writer.labels names →
    l.text.items ≡ l.initial.text.items
    ++ flat_map (held_row l.event_writer.session.core names l.clients.items l.tree.strong.items) (take l.buffer-index l.tree.held.items)
