use Rattle.outcome_texts.proofs.Common.{take, ◌≡◌}
use Rattle.std.specs.List.{fold}
use Rattle.outcome_texts.specs.Reports.{more_steps}
use Rattle.outcome_texts.proofs.report.steps_in.Given as goal

-- so many have the plans so far
abbrev pub invariant-loop-plan : goal.invariant-loop-plan
invariant-loop-plan l = l.steps ≡ fold more_steps 0 (take l.plan-index l.plans)
