use Rattle.std.proofs.Common.{◌++◌, inl, refl}
use Rattle.report_io.proofs.Takings.{line-stop}
use Rattle.report_io.proofs.taking.Intake.end_line.Goals as goal

pub returns-in-Err-clause-err : goal.returns-in-Err-clause-err
returns-in-Err-clause-err g c =
    line-stop g.T.TakesLines.took g.T.TakesLines.refuses c.args.taker.now c.args.self.now.told (g.W.Write.contents c.args.writer.now)
    c.args.taker.now (c.args.self.now.front.items ++ c.args.line.now) _ refl _ _ _ c.give_up.result refl (inl refl) c.give_up.ensures
