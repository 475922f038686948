use Rattle.std.proofs.Common.{◌≡◌, ◌++◌, true, length, map, reverse}
use Rattle.picture_text.specs.Outlines.{branch_of, twigs}
use Rattle.picture_text.proofs.outline.push_branches.Given as goal

-- those that are left come in front of those on top
abbrev pub invariant-children : goal.invariant-children
invariant-children l = twigs l.stem l.depth l.last l.left ++ reverse (map branch_of l.waiting.items)
    ≡ twigs l.stem l.depth true l.initial.left ++ reverse (map branch_of l.initial.waiting.items)

abbrev pub decreases-children : goal.decreases-children
decreases-children l = length l.left
