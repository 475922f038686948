-- What the node camps on then is exchanged for what it camped on.
use Rattle.forest_steps.proofs.node_effect.counts_after.Goals as goal

pub returns-clause-reserved : goal.returns-clause-reserved
returns-clause-reserved c = rw (c.camped.ensures, c.camped_after.ensures) at c.exchanged.ensures.sum

pub returns-clause-fits : goal.returns-clause-fits
returns-clause-fits c = rw c.camped_after.ensures at c.exchanged.ensures.told
