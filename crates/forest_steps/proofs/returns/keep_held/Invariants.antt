use Rattle.forest_steps.proofs.Common.{◌≡◌, ◌≤◌, length, take, filter, total, is_out, ◌-◌}
use Rattle.forest_steps.proofs.returns.keep_held.Given as goal

-- those before the place stay, and those that are to stay are the same
abbrev pub invariant-loop-at : goal.invariant-loop-at
invariant-loop-at l =
    (l.at ≤ length l.held.items)
    × (filter (is_out (total l.holds) l.strong_live) (take l.at l.held.items) ≡ take l.at l.held.items)
    × (filter (is_out (total l.holds) l.strong_live) l.held.items ≡ filter (is_out (total l.holds) l.strong_live) l.initial.held.items)

abbrev pub decreases-loop-at : goal.decreases-loop-at
decreases-loop-at l = length l.held.items - l.at
