use Rattle.history_laws.proofs.Common.{ap, forced}
use Rattle.history_laws.proofs.FiredLaws.{fired-quiet, readings-quiet, seen-quiet, standing-quiet}
use Rattle.history_laws.proofs.marks.quiet_calls_change_nothing.Goals as goal

pub returns-clause-read : goal.returns-clause-read
returns-clause-read c = readings-quiet

pub returns-clause-forced : goal.returns-clause-forced
returns-clause-forced c pool collection marks client reply call h =
    ap (forced pool) (standing-quiet pool marks client reply call collection h)

pub returns-clause-live : goal.returns-clause-live
returns-clause-live c marks client reply call h = (seen-quiet 0 marks client reply call h).0

pub returns-clause-held : goal.returns-clause-held
returns-clause-held c pool marks client reply call h = (seen-quiet pool marks client reply call h).1

pub returns-clause-fired : goal.returns-clause-fired
returns-clause-fired c = fired-quiet
