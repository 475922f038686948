use Rattle.std.proofs.Common.{◌≡◌, ◌++◌, [], ◌∷◌, take}
use Rattle.std.specs.List.{fold}
use Rattle.picture_layout.specs.Layouts.{depth_below}
use Rattle.picture_layout.proofs.layout.depths_of.Given as goal

-- those so far
abbrev pub invariant-loop-parent : goal.invariant-loop-parent
invariant-loop-parent l =
    l.depths.items ≡ fold (λ depths parent. depths ++ depth_below depths parent ∷ []) [] (take l.parent-index l.parents.items)
