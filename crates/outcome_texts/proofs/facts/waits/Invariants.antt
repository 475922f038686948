use Rattle.outcome_texts.proofs.Common.{any_below, ends_of, ◌≡◌}
use Rattle.outcome_texts.specs.Facts.{waits}
use Rattle.outcome_texts.proofs.facts.waits.Given as goal

-- so far one of the actors does, or none
abbrev pub invariant-actors : goal.invariant-actors
invariant-actors l = l.found ≡ any_below (waits l.telling (ends_of l.outcome).actors l.client) l.actor
