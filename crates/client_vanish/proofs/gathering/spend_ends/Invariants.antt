use Rattle.client_vanish.proofs.Common.{vec_len}
use Rattle.client_vanish.proofs.gathering.spend_ends.Given as goal

abbrev pub decreases-loop-end : goal.decreases-loop-end
decreases-loop-end g l = vec_len l.ends
