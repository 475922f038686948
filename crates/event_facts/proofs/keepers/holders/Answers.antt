use Rattle.std.proofs.Common.{arith}
use Rattle.std.proofs.lemmas.Grind.{common_steps, flat_map-append}
use Rattle.event_facts.proofs.keepers.holders.Goals as goal

-- those of one client more come last
pub loop-client-preserved : goal.loop-client-preserved
loop-client-preserved c = grind (arith, common_steps, flat_map-append)
