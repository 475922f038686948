use Rattle.std.proofs.Common.{refl}
use Rattle.sysmem.proofs.vanishing.part.Goals as goal

pub returns-in-Ok-clause-stopped : goal.returns-in-Ok-clause-stopped
returns-in-Ok-clause-stopped c failed = absurd (failed refl)

pub returns-in-Err-clause-stopped : goal.returns-in-Err-clause-stopped
returns-in-Err-clause-stopped c failed =
    record { fault = c.in-Err.fault; told = c.fault_code.ensures.value; stops = c.in-Err.ensures.err }

pub returns-in-Err-clause-done : goal.returns-in-Err-clause-done
returns-in-Err-clause-done c done = absurd (c.fault_code.ensures.failed done)
