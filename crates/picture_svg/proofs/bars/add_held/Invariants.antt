use Rattle.picture_svg.proofs.Common.{Calls, Keeps, Names, filter, has_index, map, shown_in, take, ◌++◌, ◌≡◌}
use Rattle.picture_svg.specs.Bars.{held_shown}
use Rattle.picture_svg.proofs.bars.add_held.Given as goal

-- those so far
abbrev pub invariant-loop-held : goal.invariant-loop-held
invariant-loop-held l = (names : Names) → Keeps l.event_writer.session.tables names → Calls l.event_writer.labels names →
    map shown_in l.bars.items ≡ map shown_in l.initial.bars.items
    ++ map (held_shown l.event_writer.session.core names l.clients.items l.tree.strong.items)
    (filter (has_index l.fn.index) (take l.held-index l.tree.held.items))
