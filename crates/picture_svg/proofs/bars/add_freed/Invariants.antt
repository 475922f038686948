use Rattle.picture_svg.proofs.Common.{Keeps, Names, filter, has_index, map, shown_in, take, ◌++◌, ◌≡◌}
use Rattle.picture_svg.specs.Bars.{freed_shown}
use Rattle.picture_svg.proofs.bars.add_freed.Given as goal

-- those so far
abbrev pub invariant-loop-held : goal.invariant-loop-held
invariant-loop-held l = (names : Names) → Keeps l.event_writer.session.tables names →
    map shown_in l.bars.items ≡ map shown_in l.initial.bars.items
    ++ map (freed_shown names) (filter (has_index l.fn.index) (take l.held-index l.freed))
