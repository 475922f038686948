use Rattle.picture_svg.proofs.Common.{Calls, Keeps, Names, map, shown_in, shown_to, ◌≡◌}
use Rattle.picture_svg.proofs.bars.bars_of.Given as goal

-- those with the indexes so far
abbrev pub invariant-loop-index : goal.invariant-loop-index
invariant-loop-index l = (names : Names) → Keeps l.event_writer.session.tables names → Calls l.event_writer.labels names →
    map shown_in l.bars.items ≡ shown_to l.event_writer.session.core names l.clients.items l.tree l.index
