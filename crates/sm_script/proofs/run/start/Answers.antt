use Rattle.report_io.proofs.Takings.{stands-none}
use Rattle.sm_script.proofs.Running.{runs-nothing}
use Rattle.sm_script.proofs.run.start.Goals as goal

pub returns : goal.returns
returns g c = runs-nothing _ _ _

pub read_on-requires-clause-start : goal.read_on-requires-clause-start
read_on-requires-clause-start g c =
    stands-none _ _ _ _ c.requires c.new-intake.ensures.text c.new-intake.ensures.lines
