use Rattle.client_vanish.proofs.Common.{length, ◌+◌, ◌≡◌}
use Rattle.client_vanish.specs.Gatherings.{all_present_handles}
use Rattle.client_vanish.proofs.gathering.left_of.Given as goal

abbrev pub invariant-loop-part : goal.invariant-loop-part
invariant-loop-part g l = l.total + all_present_handles l.strength l.rest ≡ l.left + all_present_handles l.strength l.parts

abbrev pub decreases-loop-part : goal.decreases-loop-part
decreases-loop-part g l = length l.rest
