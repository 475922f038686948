use Rattle.event_laws.proofs.Common.{Stands, length, part, rest_at}
use Rattle.event_laws.proofs.RecallLaws.{Alike}
use Rattle.event_laws.proofs.parts.Parts.differ.Given as goal

-- the lists begin alike
abbrev pub invariant-loop-event : goal.invariant-loop-event
invariant-loop-event l = record {
  stands : Stands l.self l.client l.event;
  alike : Alike l.own (part l.client l.self) l.left (rest_at l.self l.client l.event);
}

abbrev pub decreases-loop-event : goal.decreases-loop-event
decreases-loop-event l = length l.left
