use Rattle.std.proofs.Common.{◌≡◌, ◌++◌, ◌-◌, length}
use Rattle.picture_layout.specs.Layouts.{columns_from, columns_of}
use Rattle.picture_layout.proofs.layout.columns_of.Given as goal

-- those so far, and those that are left, are all
abbrev pub invariant-loop-at : goal.invariant-loop-at
invariant-loop-at l = l.columns.items ++ columns_from l.parents.items l.widths (length l.parents.items - l.at) l.at l.free.items
    ≡ columns_of l.parents.items l.widths
