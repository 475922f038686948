use Rattle.outcome_texts.proofs.Common.{ap, append-nil, append_assoc, arith, drop, length-drop, length-take, number_and_line, steps_from}
use Rattle.outcome_texts.proofs.Common.{steps_in, sym, take, take_rest, whole_lines, ◌++◌, ◌+◌, ◌∙◌}
use Rattle.outcome_texts.proofs.Stepping.{steps_first, steps_none}
use Rattle.outcome_texts.proofs.lines.step_lines.Goals as goal

-- the first of the lines that are left comes behind what is there
pub lines-preserved : goal.lines-preserved
lines-preserved c = (
  ap (λ left. steps_in c.push_step_line.new.steps.items ++ steps_from c.args.labels.now (c.lines.number + 1) (whole_lines left))
      (take_rest c.lines.rest.now (c.in-Some.at + 1))
      ∙ ap (λ told. told ++ steps_from c.args.labels.now (c.lines.number + 1) (whole_lines (drop (c.in-Some.at + 1) c.lines.rest.now)))
      c.in_ok-push_step_line.ensures
      ∙ append_assoc (steps_in c.lines.steps.items) (number_and_line c.args.labels.now c.lines.number (take c.in-Some.at c.lines.rest.now))
      (steps_from c.args.labels.now (c.lines.number + 1) (whole_lines (drop (c.in-Some.at + 1) c.lines.rest.now)))
      ∙ ap (λ more. steps_in c.lines.steps.items ++ more)
      (sym (steps_first c.args.labels.now c.lines.number c.lines.rest.now c.in-Some.at (sym c.in-Some.ensures.value)))
      ∙ c.lines.invariant.0,
  grind (arith, length-drop, length-take, c.lines.invariant.1, c.in-Some.ensures.within),
)

pub returns : goal.returns
returns c =
    sym (append-nil (steps_in c.lines.steps.items))
    ∙ ap (λ more. steps_in c.lines.steps.items ++ more)
    (sym (steps_none c.args.labels.now c.lines.number c.lines.rest.now (sym c.in_default.ensures.value)))
    ∙ c.lines.invariant.0
