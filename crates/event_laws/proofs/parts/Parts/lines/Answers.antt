use Rattle.event_laws.proofs.Common.{arith, common_steps}
use Rattle.event_laws.proofs.parts.Parts.lines.Goals as goal

pub loop-entry-preserved : goal.loop-entry-preserved
loop-entry-preserved c = grind (arith, common_steps)

pub returns : goal.returns
returns c = grind (arith, common_steps)
