use Rattle.event_facts.proofs.Common.{arith, common_steps, filter-append, map-append}
use Rattle.event_facts.proofs.pages.given_back.Goals as goal

-- one more comes last, or is left out
pub loop-buffer-preserved : goal.loop-buffer-preserved
loop-buffer-preserved c = grind (arith, common_steps, map-append, filter-append)
