use Rattle.picture_svg.proofs.Common.{line_items, map, take, ◌≡◌}
use Rattle.picture_svg.specs.SvgPictures.{longest_of}
use Rattle.picture_svg.proofs.picture.longest_of.Given as goal

-- that of those so far
abbrev pub invariant-loop-line : goal.invariant-loop-line
invariant-loop-line l = l.longest ≡ longest_of (map line_items (take l.line-index l.lines))
