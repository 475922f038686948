use Rattle.std.proofs.Common.{◌∙◌, ap, ◌++◌}
use Rattle.report_io.specs.Reasons.{bad_text}
use Rattle.report_io.proofs.BadLines.{reason_told}
use Rattle.report_io.proofs.fault.fault_of.Goals as goal

-- the words are the reason of the line, which it has since it asks for nothing
pub returns-in-Ok-clause-known : goal.returns-in-Ok-clause-known
returns-in-Ok-clause-known c names keeps bad =
    reason_told names c.args.line.now _
    (c.in-Ok.ensures names keeps ∙ ap (λ items. items ++ bad_text names c.args.line.now) c.new-reason.ensures.items) bad
