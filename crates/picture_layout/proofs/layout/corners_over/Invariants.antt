use Rattle.std.proofs.Common.{◌≡◌, map}
use Rattle.std.specs.List.{range_with_len}
use Rattle.picture_layout.specs.Layouts.{corner_at}
use Rattle.picture_layout.proofs.layout.corners_over.Given as goal

-- those so far
abbrev pub invariant-loop-at : goal.invariant-loop-at
invariant-loop-at l =
    l.corners.items ≡ map (corner_at l.start l.pitch l.grid.widths.items l.grid.columns.items l.grid.depths.items) (range_with_len 0 l.at)
