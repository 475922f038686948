use Rattle.event_laws.proofs.Common.{Links, length, ◌≤◌}
use Rattle.event_laws.proofs.parts.chain.Given as goal

-- the events that were looked at are chained
abbrev pub invariant-loop-passed : goal.invariant-loop-passed
invariant-loop-passed l = record {
  within : l.passed ≤ length l.«record»;
  links : Links l.passed l.first l.next l.«record»;
}

abbrev pub decreases-loop-passed : goal.decreases-loop-passed
decreases-loop-passed l = l.passed
