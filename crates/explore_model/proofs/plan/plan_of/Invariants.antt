use Rattle.std.proofs.Common.{◌≡◌}
use Rattle.explore_model.specs.Plans.{planned_first}
use Rattle.explore_model.proofs.plan.plan_of.Given as goal

-- so many steps are planned
abbrev pub invariant-loop-at : goal.invariant-loop-at
invariant-loop-at l = l.planned.items ≡ planned_first l.waiting l.steps l.at
