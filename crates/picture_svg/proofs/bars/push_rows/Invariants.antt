use Rattle.picture_svg.proofs.Common.{bars_bottom, bars_text, length, map, shown_in, ◌++◌, ◌≡◌}
use Rattle.picture_svg.proofs.bars.push_rows.Given as goal

-- those so far, and those that are left, are all
abbrev pub invariant-bars : goal.invariant-bars
invariant-bars l =
    (l.body.items ++ bars_text l.width l.y (map shown_in l.rest)
    ≡ l.initial.body.items ++ bars_text l.width l.row (map shown_in l.initial.rest))
    × (bars_bottom l.y (map shown_in l.rest) ≡ bars_bottom l.row (map shown_in l.initial.rest))

abbrev pub decreases-bars : goal.decreases-bars
decreases-bars l = length l.rest
