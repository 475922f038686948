use Rattle.std.proofs.Common.{◌+◌, refl}
use Rattle.report_io.proofs.Takings.{goes-cut, goes-out, line-stop, line-taken}
use Rattle.report_io.proofs.taking.Told.take_line.Goals as goal

pub returns-in-Err-clause-err : goal.returns-in-Err-clause-err
returns-in-Err-clause-err g c =
    line-stop g.T.TakesLines.took g.T.TakesLines.refuses c.args.taker.now c.args.self.now (g.W.Write.contents c.args.writer.now)
    c.take_line.new.self c.args.line.now _ refl _ _ c.in-Err.fault c.give_up.result c.in-Err.ensures.kept c.in-Err.ensures.err
    c.give_up.ensures

pub returns-in-Ok-put_out-clause-ok : goal.returns-in-Ok-put_out-clause-ok
returns-in-Ok-put_out-clause-ok g c =
    goes-out g.T.TakesLines.took g.T.TakesLines.refuses _ _ _ _ (record { lines = c.args.self.now.lines + 1; text = c.take_line.new.text })
    _ _ _ c.in-Ok.more c.put_out.new.self
    (line-taken g.T.TakesLines.took g.T.TakesLines.refuses c.args.taker.now c.args.self.now (g.W.Write.contents c.args.writer.now)
    c.take_line.new.self c.args.line.now _ refl c.in-Ok.more _ c.in-Ok.ensures.ok refl) c.in-Ok-put_out.ensures.ok
    c.in-Ok-put_out.ensures.empty c.put_out.ensures.same

pub returns-in-Err-put_out-clause-err : goal.returns-in-Err-put_out-clause-err
returns-in-Err-put_out-clause-err g c =
    goes-cut g.T.TakesLines.took g.T.TakesLines.refuses _ _ _ _ (record { lines = c.args.self.now.lines + 1; text = c.take_line.new.text })
    _ _ _ c.in-Ok.more c.in-Err-put_out.fault
    (line-taken g.T.TakesLines.took g.T.TakesLines.refuses c.args.taker.now c.args.self.now (g.W.Write.contents c.args.writer.now)
    c.take_line.new.self c.args.line.now _ refl c.in-Ok.more _ c.in-Ok.ensures.ok refl) c.in-Err-put_out.ensures.err
