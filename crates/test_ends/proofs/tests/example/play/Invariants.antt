use Rattle.std.proofs.Common.{vec_len}
use Rattle.test_ends.proofs.tests.example.play.Given as goal

abbrev pub decreases-loop-handle : goal.decreases-loop-handle
decreases-loop-handle g l = vec_len l.handles
