use Rattle.std.proofs.Common.{◌≡◌, [], ap, sym, Ok, ◌∙◌}
use Rattle.script_lines.specs.Pieces.{last_part, rest_from}
use Rattle.report_io.proofs.Takings.{script-breaks, script-goes, script-taken, script-unended}
use Rattle.report_io.proofs.taking.take_script.Goals as goal

-- all lines were taken
pub returns-in-Ok : goal.returns-in-Ok
returns-in-Ok g c =
    script-taken _ (g.T.TakesLines.refuses c.args.taker.now) _ _ _ _ _ _
    (script-goes g.T.TakesLines.took _ _ _ _ c.requires.start c.new-intake.ensures.text c.new-intake.ensures.lines
    c.new-intake.ensures.front _ _ c.args.script.now _ _ (rw c.in-Ok-true.field-0-test at c.in-Ok-true.ensures.ok))
    c.in-Ok-true.ensures.empty
    (λ wanted. ap (λ front. rest_from front c.args.script.now) (sym c.new-intake.ensures.front)
    ∙ sym (c.take.ensures.rest (c.in-Ok-true.is ∙ ap Ok c.in-Ok-true.field-0-test)) ∙ c.in-Ok.ensures.ok)

-- the last line has no end
pub returns-in-Ok-true : goal.returns-in-Ok-true
returns-in-Ok-true g c =
    script-unended _ (g.T.TakesLines.refuses c.args.taker.now) _ _ _ c.args.script.now c.take.new.self.told c.in-Err-end.fault
    (script-goes g.T.TakesLines.took _ _ _ _ c.requires.start c.new-intake.ensures.text c.new-intake.ensures.lines
    c.new-intake.ensures.front _ _ c.args.script.now _ _ (rw c.in-Ok-true.field-0-test at c.in-Ok-true.ensures.ok))
    c.in-Ok-true.ensures.empty
    (λ none. c.in-Err-end.ensures.some (c.take.ensures.rest (c.in-Ok-true.is ∙ ap Ok c.in-Ok-true.field-0-test)
    ∙ ap (λ front. rest_from front c.args.script.now) c.new-intake.ensures.front ∙ none))
    c.in-Err-end.ensures.line c.in-Err-end.ensures.reason

-- no more are taken
pub returns-in-Ok-false : goal.returns-in-Ok-false
returns-in-Ok-false g c =
    script-taken _ (g.T.TakesLines.refuses c.args.taker.now) _ _ _ _ _ _
    (script-goes g.T.TakesLines.took _ _ _ _ c.requires.start c.new-intake.ensures.text c.new-intake.ensures.lines
    c.new-intake.ensures.front _ _ c.args.script.now _ _ (rw c.in-Ok-false.field-0-test at c.in-Ok-false.ensures.ok))
    c.in-Ok-false.ensures.empty (λ wanted. absurd (cc))

-- not all was taken
pub returns : goal.returns
returns g c =
    script-breaks g.T.TakesLines.took _ _ _ _ c.requires.start c.new-intake.ensures.text c.new-intake.ensures.lines
    c.new-intake.ensures.front _ _ c.args.script.now g.T.TakesLines.refuses c.in-Err.fault c.in-Err.ensures.err
