use Rattle.client_vanish.proofs.Common.{length}
use Rattle.client_vanish.proofs.GatherLaws.{FoundSoFar}
use Rattle.client_vanish.proofs.gathering.first_mismatch.Given as goal

abbrev pub invariant-loop-part : goal.invariant-loop-part
invariant-loop-part g l = FoundSoFar l.view l.parts l.rest l.found

abbrev pub decreases-loop-part : goal.decreases-loop-part
decreases-loop-part g l = length l.rest
