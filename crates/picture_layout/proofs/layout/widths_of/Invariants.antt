use Rattle.std.proofs.Common.{◌≡◌}
use Rattle.picture_layout.specs.Layouts.{widened_all}
use Rattle.picture_layout.proofs.layout.widths_of.Given as goal

-- with those that are left, all have their columns
abbrev pub invariant-nodes : goal.invariant-nodes
invariant-nodes l = widened_all l.left l.parents.items l.widths.items ≡ widened_all l.initial.left l.parents.items l.initial.widths.items

abbrev pub decreases-nodes : goal.decreases-nodes
decreases-nodes l = l.left
