use Rattle.report_io.proofs.Takings.{goes_on-cut, goes_on-out}
use Rattle.report_io.proofs.taking.Intake.take.Goals as goal

pub returns-in-Ok-put_out-clause-ok : goal.returns-in-Ok-put_out-clause-ok
returns-in-Ok-put_out-clause-ok g c =
    goes_on-out g.T.TakesLines.took g.T.TakesLines.refuses _ _ _ _ _ _ _ _ c.in-Ok.more _ c.in-Ok.ensures.ok c.in-Ok-put_out.ensures.ok
    c.in-Ok-put_out.ensures.empty c.put_out.ensures.same

pub returns-in-Err-put_out-clause-err : goal.returns-in-Err-put_out-clause-err
returns-in-Err-put_out-clause-err g c =
    goes_on-cut g.T.TakesLines.took g.T.TakesLines.refuses _ _ _ _ _ _ _ _ c.in-Ok.more c.in-Err-put_out.fault _ c.in-Ok.ensures.ok
    c.in-Err-put_out.ensures.err
