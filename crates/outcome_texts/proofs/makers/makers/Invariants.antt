use Rattle.outcome_texts.proofs.Common.{count_below, ◌≡◌, ◌≤◌}
use Rattle.outcome_texts.specs.Facts.{is_maker}
use Rattle.outcome_texts.proofs.makers.makers.Given as goal

-- so many of these clients do
abbrev pub invariant-actors : goal.invariant-actors
invariant-actors l = record {
  is : l.count ≡ count_below (is_maker l.telling l.trackers l.name) l.actor;
  within : l.count ≤ l.actor;
}
