use Rattle.outcome_texts.proofs.Common.{any_below, ◌≡◌}
use Rattle.outcome_texts.specs.Facts.{makes_at}
use Rattle.outcome_texts.proofs.makers.makes_in.Given as goal

-- so far one of the steps does, or none
abbrev pub invariant-steps : goal.invariant-steps
invariant-steps l = l.found ≡ any_below (makes_at l.telling l.trackers l.label l.actor l.plan) l.at
