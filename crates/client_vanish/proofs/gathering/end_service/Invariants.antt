use Rattle.client_vanish.proofs.Common.{vec_len}
use Rattle.client_vanish.proofs.gathering.end_service.Given as goal

abbrev pub decreases-loop-part : goal.decreases-loop-part
decreases-loop-part g l = vec_len l.parts
