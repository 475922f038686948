use Rattle.outcome_texts.proofs.Common.{drop, ◌≡◌}
use Rattle.outcome_texts.specs.Lines.{actor_line}
use Rattle.outcome_texts.proofs.lines.line_at.Given as goal

-- it is the one of those that are left
abbrev pub invariant-steps : goal.invariant-steps
invariant-steps l = actor_line l.steps l.actor l.step ≡ actor_line (drop l.one-index l.steps) l.actor l.left
