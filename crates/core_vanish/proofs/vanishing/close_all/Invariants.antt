use Rattle.core_vanish.proofs.Common.{HoldsAmong, IsClose, Lets, Phase, length}
use Rattle.core_vanish.proofs.vanishing.close_all.Given as goal

-- what the client holds still is among the rest
abbrev pub invariant-loop-node : goal.invariant-loop-node
invariant-loop-node l = Phase l.fn.core l.core (Lets (IsClose l.client) l.client (HoldsAmong l.client l.rest))

abbrev pub decreases-loop-node : goal.decreases-loop-node
decreases-loop-node l = length l.rest
