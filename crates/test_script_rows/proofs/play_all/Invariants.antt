use Rattle.std.proofs.Common.{length}
use Rattle.test_script_rows.proofs.play_all.Given as goal

abbrev pub decreases-lines : goal.decreases-lines
decreases-lines l = length l.rest
