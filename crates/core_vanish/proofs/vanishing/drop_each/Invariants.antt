use Rattle.core_vanish.proofs.Common.{IsDrop, Lets, Phase, open_of, ◌≡◌}
use Rattle.core_vanish.proofs.vanishing.drop_each.Given as goal

-- this many are open still
abbrev pub invariant-loop-left : goal.invariant-loop-left
invariant-loop-left l =
    Phase l.fn.core l.core (Lets (IsDrop l.client) l.client (λ later. open_of later l.client l.buffer l.strength ≡ l.left))

abbrev pub decreases-loop-left : goal.decreases-loop-left
decreases-loop-left l = l.left
