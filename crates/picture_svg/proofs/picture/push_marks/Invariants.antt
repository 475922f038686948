use Rattle.picture_svg.proofs.Common.{length, marks_bottom, svg_marks, ◌++◌, ◌≡◌}
use Rattle.picture_svg.proofs.picture.push_marks.Given as goal

-- those so far, and those that are left, are all
abbrev pub invariant-marks : goal.invariant-marks
invariant-marks l = (l.body.items ++ svg_marks l.y l.rest ≡ l.initial.body.items ++ svg_marks l.row l.initial.rest)
    × (marks_bottom l.y l.rest ≡ marks_bottom l.row l.initial.rest)

abbrev pub decreases-marks : goal.decreases-marks
decreases-marks l = length l.rest
