use Rattle.std.proofs.Common.{◌≤◌, ◌-◌, All, length}
use Rattle.buffer_holds.specs.Pages.{IsBlank}
use Rattle.buffer_holds.proofs.spares.make_spares.Given as goal

-- all are blank, and none was taken away
abbrev pub invariant-loop-count : goal.invariant-loop-count
invariant-loop-count l = All IsBlank l.spares.pages.items × (length l.fn.spares.pages.items ≤ length l.spares.pages.items)

abbrev pub decreases-loop-count : goal.decreases-loop-count
decreases-loop-count l = l.count - length l.spares.pages.items
