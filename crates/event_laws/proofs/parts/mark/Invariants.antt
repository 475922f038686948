use Rattle.std.proofs.Common.{length}
use Rattle.event_laws.proofs.NumberLaws.{IsMarked}
use Rattle.event_laws.proofs.parts.mark.Given as goal

abbrev pub invariant-loop-id : goal.invariant-loop-id
invariant-loop-id l = IsMarked l.present l.rest l.ids

abbrev pub decreases-loop-id : goal.decreases-loop-id
decreases-loop-id l = length l.rest
