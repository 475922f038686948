use Rattle.picture_svg.proofs.Common.{Keeps, Names, flat_map, held_cell, take, ◌++◌, ◌≡◌}
use Rattle.picture_svg.proofs.picture.push_cells.Given as goal

-- those so far
abbrev pub invariant-loop-buffer : goal.invariant-loop-buffer
invariant-loop-buffer l = (names : Names) → Keeps l.event_writer.session.tables names →
    l.body.items ≡ l.initial.body.items ++ flat_map (held_cell names l.cell l.y) (take l.buffer-index l.held)
