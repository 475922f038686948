use Rattle.std.proofs.Common.{length}
use Rattle.report_io.proofs.Takings.{Taken}
use Rattle.report_io.proofs.taking.Intake.take_piece.Given as goal

abbrev pub invariant-lines : goal.invariant-lines
invariant-lines g l =
    Taken g.T.TakesLines.took g.T.TakesLines.refuses l.initial.self.front.items l.piece l.initial.taker l.initial.self.told
    (g.W.Write.contents l.initial.writer) l.self.front.items l.rest l.taker l.self.told (g.W.Write.contents l.writer)

abbrev pub decreases-lines : goal.decreases-lines
decreases-lines g l = length l.rest
