use Rattle.std.proofs.Common.{arith}
use Rattle.std.proofs.lemmas.Grind.{common_steps, flat_map-append}
use Rattle.script_lines.proofs.parts.push_parts.Goals as goal

-- the text of one part more comes last
pub loop-part-preserved : goal.loop-part-preserved
loop-part-preserved c = grind (arith, common_steps, flat_map-append)
