use Rattle.report_io.proofs.Incoming.{IsIn}
use Rattle.report_io.proofs.reading.read_on.Given as goal

abbrev pub invariant-turns : goal.invariant-turns
invariant-turns g l =
    IsIn (g.R.Read.remaining l.initial.reader) (g.R.Read.remaining l.reader) l.script.items l.left

abbrev pub decreases-turns : goal.decreases-turns
decreases-turns g l = l.left
