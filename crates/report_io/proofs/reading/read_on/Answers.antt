use Rattle.std.proofs.Common.{arith, take}
use Rattle.report_io.proofs.Incoming.{in-beyond, in-refused}
use Rattle.report_io.proofs.reading.read_on.Goals as goal

pub returns-in-Ok-clause-err : goal.returns-in-Ok-clause-err
returns-in-Ok-clause-err g c =
    in-beyond _ _ _ _ c.turns.invariant _ (take c.in-Ok.n c.read.new.buf) c.in-Ok.ensures.bytes.0
    (omega (arith, c.in-Ok.ensures.bound.1, c.if-left-n.true))

pub returns-in-Err-extend_from_slice-clause-err : goal.returns-in-Err-extend_from_slice-clause-err
returns-in-Err-extend_from_slice-clause-err g c =
    in-refused _ _ _ _ c.turns.invariant _ (take c.in-Ok.n c.read.new.buf) c.in-Ok.ensures.bytes.0
    (omega (arith, c.in-Ok.ensures.bound.1, c.if-left-n.false))
