use Rattle.picture_svg.proofs.Common.{length, line_items, map, svg_lines, ◌++◌, ◌≡◌}
use Rattle.picture_svg.proofs.tree.push_lines.Given as goal

-- those so far, and those that are left, are all
abbrev pub invariant-lines : goal.invariant-lines
invariant-lines l = l.body.items ++ svg_lines l.x l.y l.fill (map line_items l.rest)
    ≡ l.initial.body.items ++ svg_lines l.x l.row l.fill (map line_items l.initial.rest)

abbrev pub decreases-lines : goal.decreases-lines
decreases-lines l = length l.rest
