use Rattle.script_labels.specs.Names.{no_names}
use Rattle.report_io.proofs.reasons.form_fault.Goals as goal

-- no test looks labels up
pub returns : goal.returns
returns c = c.line_fault.ensures no_names tt
