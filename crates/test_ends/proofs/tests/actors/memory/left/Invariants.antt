use Rattle.std.proofs.Common.{vec_len}
use Rattle.test_ends.proofs.tests.actors.memory.left.Given as goal

abbrev pub decreases-loop-end : goal.decreases-loop-end
decreases-loop-end g l = vec_len l.ends
