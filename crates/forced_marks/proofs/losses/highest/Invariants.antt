use Rattle.forced_marks.proofs.Common.{above_among, has, length, reverse, ◌≡◌}
use Rattle.sm_names.specs.Losses.{top as topmost}
use Rattle.forced_marks.proofs.losses.highest.Given as goal

-- the climb that is left ends where the whole does
abbrev pub invariant-up : goal.invariant-up
invariant-up l = topmost (has l.blocking) l.at (above_among (reverse l.rest) l.at)
    ≡ topmost (has l.blocking) l.fn.key (above_among (reverse l.nodes) l.fn.key)

abbrev pub decreases-up : goal.decreases-up
decreases-up l = length l.rest
