use Rattle.outcome_texts.proofs.Common.{any_below, ends_of, ◌≡◌}
use Rattle.outcome_texts.specs.Facts.{has_fired}
use Rattle.outcome_texts.proofs.facts.has_fired.Given as goal

-- so far one of the actors did, or none
abbrev pub invariant-actors : goal.invariant-actors
invariant-actors l = l.found ≡ any_below (has_fired l.telling (ends_of l.outcome).actors l.name) l.actor
