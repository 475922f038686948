use Rattle.sysmem.proofs.Common.{arith}
use Rattle.std.proofs.Common.{append_assoc}
use Rattle.std.proofs.lemmas.Grind.{common_steps}
use Rattle.std.proofs.lemmas.List.{map-append}
use Rattle.std.proofs.lemmas.List.Elements.{filter-append}
use Rattle.sysmem.proofs.holders.holders_of.Goals as goal

-- the handles of one client more come last
pub loop-client-preserved : goal.loop-client-preserved
loop-client-preserved c = grind (arith, common_steps, append_assoc, map-append, filter-append)
