-- The intervals that are still to come are held, and begin apart.
use Rattle.test_part_rows.proofs.Comings.{AreToCome}
use Rattle.test_part_rows.proofs.pages.give_back.Given as goal

abbrev pub invariant-loop-back : goal.invariant-loop-back
invariant-loop-back l = AreToCome l.back-index l.back-items l.pool.held
