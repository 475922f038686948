use Rattle.client_vanish.proofs.Common.{length, ◌++◌, ◌≡◌}
use Rattle.client_vanish.specs.Gatherings.{ids_of}
use Rattle.client_vanish.proofs.gathering.ids.Given as goal

abbrev pub invariant-loop-part : goal.invariant-loop-part
invariant-loop-part g l = l.ids.items ++ ids_of l.rest ≡ ids_of l.parts

abbrev pub decreases-loop-part : goal.decreases-loop-part
decreases-loop-part g l = length l.rest
