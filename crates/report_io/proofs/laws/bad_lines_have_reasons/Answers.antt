use Rattle.report_io.proofs.BadLines.{bad_has_reason}
use Rattle.report_io.proofs.laws.bad_lines_have_reasons.Goals as goal

pub returns : goal.returns
returns c names line bad = bad_has_reason names line bad
