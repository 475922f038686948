use Rattle.actor_scripts.proofs.Blocks.{Come}
use Rattle.actor_scripts.proofs.input.read_on.Given as goal

abbrev pub invariant-turns : goal.invariant-turns
invariant-turns g l = Come (g.R.Read.remaining l.initial.reader) (g.R.Read.remaining l.reader) l.script.items l.left

abbrev pub decreases-turns : goal.decreases-turns
decreases-turns g l = l.left
