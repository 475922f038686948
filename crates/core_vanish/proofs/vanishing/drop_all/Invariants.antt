use Rattle.core_vanish.proofs.Common.{HasAmong, IsDrop, Lets, Phase, length}
use Rattle.core_vanish.proofs.vanishing.drop_all.Given as goal

-- what the client has open still is among the rest
abbrev pub invariant-loop-buffer : goal.invariant-loop-buffer
invariant-loop-buffer l = Phase l.fn.core l.core (Lets (IsDrop l.client) l.client (HasAmong l.client l.rest))

abbrev pub decreases-loop-buffer : goal.decreases-loop-buffer
decreases-loop-buffer l = length l.rest
