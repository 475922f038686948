use Rattle.client_vanish.proofs.Common.{vec_len}
use Rattle.client_vanish.proofs.gathering.spend.Given as goal

abbrev pub decreases-loop-handle : goal.decreases-loop-handle
decreases-loop-handle g l = vec_len l.handles
