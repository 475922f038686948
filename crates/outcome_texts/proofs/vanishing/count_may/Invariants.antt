use Rattle.outcome_texts.proofs.Common.{count_below, ◌≡◌, ◌≤◌}
use Rattle.outcome_texts.specs.Vanishing.{may_vanish}
use Rattle.outcome_texts.proofs.vanishing.count_may.Given as goal

-- so far so many may
abbrev pub invariant-actors : goal.invariant-actors
invariant-actors l = (l.count ≡ count_below (may_vanish l.who) l.actor) × (l.count ≤ l.actor)
