use Rattle.event_laws.proofs.Common.{Marks, length, ◌+◌, ◌≡◌}
use Rattle.event_laws.proofs.NumberLaws.{IsRead}
use Rattle.event_laws.proofs.parts.Parts.first_absent.Given as goal

-- each client that joined so far is there
abbrev pub invariant-loop-entry : goal.invariant-loop-entry
invariant-loop-entry l = record {
  marks : Marks l.present.items l.ids;
  many : length l.present.items ≡ length l.self;
  read : IsRead l.ids (l.at + 1) l.rest l.self;
  at : l.at + length l.rest ≡ length l.self;
}

abbrev pub decreases-loop-entry : goal.decreases-loop-entry
decreases-loop-entry l = length l.rest
