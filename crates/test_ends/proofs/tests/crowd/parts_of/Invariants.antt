use Rattle.std.proofs.Common.{vec_len}
use Rattle.test_ends.proofs.tests.crowd.parts_of.Given as goal

abbrev pub decreases-loop-seat : goal.decreases-loop-seat
decreases-loop-seat g l = vec_len l.seats

abbrev pub decreases-loop-part : goal.decreases-loop-part
decreases-loop-part g l = vec_len l.parts
