use Rattle.outcome_texts.proofs.Common.{Some, any_below, ◌≡◌}
use Rattle.outcome_texts.specs.Facts.{is_meant}
use Rattle.outcome_texts.proofs.makers.has_client.Given as goal

-- so far one of the clients is meant, or none
abbrev pub invariant-actors : goal.invariant-actors
invariant-actors l = l.found ≡ any_below (is_meant l.labels (Some l.client)) l.actor
